use Rattle.std.proofs.Common.{sym, subst}
use Rattle.std.specs.Option.{option_copied}
use Rattle.graph_spec.specs.Steps.{IsCountOf, IsStepTo}
use Rattle.edge_queries.specs.Places.{at_end, step_to}
use Rattle.graph_spec.specs.Orders.{edge_cmp, edge_cmp-total, step_cmp, step_cmp-total, step_cmp-exact}
use Rattle.graph_spec.specs.DataGraph.{DataGraph}
use Rattle.live_layers.specs.Grouped.{elements}
use Rattle.live_layers.specs.Items.{layer_graph}
use Rattle.live_layers.proofs.PickLaws.{size_count}
use Rattle.live_layers.proofs.GivesLaws.{gives_incoming, to_placed}
use Rattle.live_layers.proofs.layer.Layer.degree_incoming.Goals as goal

pub returns : goal.returns
returns c = subst (λ (G : DataGraph). IsCountOf step_cmp (IsStepTo G c.args.to.now) c.size.result) c.self.view_is
    (subst (IsCountOf step_cmp (IsStepTo (layer_graph c.self.inside.edges c.self.inside.members) c.args.to.now)) (sym c.size.ensures)
    (size_count (at_end c.args.to.now) (step_to)
    (IsStepTo (layer_graph c.self.inside.edges c.self.inside.members) c.args.to.now)
    (elements (option_copied c.to.result))
    (gives_incoming (layer_graph c.self.inside.edges c.self.inside.members) (elements (option_copied c.to.result)) c.args.to.now c.to.ensures)
    edge_cmp edge_cmp-total c.to.ensures.ascending step_cmp step_cmp-total step_cmp-exact
    (to_placed (layer_graph c.self.inside.edges c.self.inside.members) (elements (option_copied c.to.result)) c.args.to.now c.to.ensures)))
