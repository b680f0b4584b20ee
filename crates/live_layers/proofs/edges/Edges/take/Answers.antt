use Rattle.std.proofs.Common.{sym, subst, List}
use Rattle.std.specs.BTreeMap.{is_at}
use Rattle.std.specs.Set.{remove_key}
use Rattle.graph_spec.specs.declared.Edge.{Edge}
use Rattle.graph_spec.specs.Orders.{edge_cmp, edge_cmp-total, edge_cmp-exact}
use Rattle.live_layers.specs.Grouped.{AreOrders}
use Rattle.live_layers.proofs.GroupLaws.{orders_near_without, nothing_left}
use Rattle.live_layers.proofs.edges.Edges.take.Goals as goal

pub invariant_of-self : goal.invariant_of-self
invariant_of-self c = subst (λ (es : List Edge). AreOrders es c.take.new.self) (sym c.remove.ensures.keys)
    (c.take.ensures (remove_key (is_at (edge_cmp c.args.edge.now)) c.self.inside.all.keys)
    (orders_near_without c.args.edge.now c.self.inside.all.keys c.self.inside.orders c.len-size.ensures.ordered c.self.invariant)
    (nothing_left edge_cmp edge_cmp-total edge_cmp-exact c.args.edge.now c.self.inside.all.keys c.len-size.ensures.ordered))
