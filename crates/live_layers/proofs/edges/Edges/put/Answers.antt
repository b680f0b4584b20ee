use Rattle.std.proofs.Common.{◌≡◌, ◌∙◌, sym, subst, List}
use Rattle.std.specs.BTreeSet.{insert_key}
use Rattle.graph_spec.specs.declared.Edge.{Edge}
use Rattle.graph_spec.specs.Orders.{edge_cmp, edge_cmp-total, edge_cmp-exact}
use Rattle.sd_graph.specs.Inserted.{inserted-known}
use Rattle.live_layers.specs.Grouped.{AreOrders}
use Rattle.live_layers.proofs.GroupLaws.{any_is}
use Rattle.live_layers.proofs.edges.Edges.put.Goals as goal

pub returns-then-contains-clause-put : goal.returns-then-contains-clause-put
returns-then-contains-clause-put c =
    let there = (any_is edge_cmp edge_cmp-total edge_cmp-exact c.args.edge.now c.self.inside.all.keys).0
    (sym c.contains.ensures ∙ c.if-contains.true) in
    subst (λ (es : List Edge). es ≡ insert_key edge_cmp es c.args.edge.now) c.self.view_is
    (sym (inserted-known edge_cmp edge_cmp-total c.args.edge.now c.self.inside.all.keys c.len-size.ensures.ordered there))

pub invariant_of-self-in-Err : goal.invariant_of-self-in-Err
invariant_of-self-in-Err c = subst (λ (es : List Edge). AreOrders es c.take.new.self) (sym c.in-Err.ensures.kept)
    (c.take.ensures c.self.inside.all.keys c.in-Err.ensures.some (λ m.
    let t = (any_is edge_cmp edge_cmp-total edge_cmp-exact c.args.edge.now c.self.inside.all.keys).1 m in
    let r = c.contains.ensures in let f = c.if-contains.false in cc))
