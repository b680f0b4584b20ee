use Rattle.std.proofs.Common.{sym, subst, List}
use Rattle.std.specs.Prelude.{◌↔◌, IsTrue, Contains}
use Rattle.graph_spec.specs.declared.Edge.{Edge}
use Rattle.graph_spec.specs.Orders.{edge_cmp, edge_cmp-total, edge_cmp-exact}
use Rattle.live_layers.proofs.GroupLaws.{any_is}
use Rattle.live_layers.proofs.edges.Edges.has.Goals as goal

pub returns : goal.returns
returns c = subst (λ (es : List Edge). IsTrue c.contains.result ↔ Contains es c.args.edge.now) c.self.view_is
    (subst (λ b. IsTrue b ↔ Contains c.self.inside.all.keys c.args.edge.now) (sym c.contains.ensures)
    (any_is edge_cmp edge_cmp-total edge_cmp-exact c.args.edge.now c.self.inside.all.keys))
