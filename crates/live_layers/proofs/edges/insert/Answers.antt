use Rattle.std.proofs.Common.{◌∙◌, ap, sym, subst, List}
use Rattle.std.specs.BTreeSet.{insert_key}
use Rattle.graph_spec.specs.declared.Edge.{Edge}
use Rattle.graph_spec.specs.Orders.{edge_cmp}
use Rattle.live_layers.specs.Grouped.{AreOrders}
use Rattle.live_layers.proofs.GroupLaws.{on_err, orders_near, orders_with_near}
use Rattle.live_layers.proofs.edges.insert.Goals as goal

pub returns-in_err-copied-clause-some : goal.returns-in_err-copied-clause-some
returns-in_err-copied-clause-some c = on_err _ (orders_near c.args.edge.now c.args.all.now.keys c.args.orders.now c.requires)

pub returns-in_err-put-clause-some : goal.returns-in_err-put-clause-some
returns-in_err-put-clause-some c = on_err _ (c.in_err-put.ensures.some c.args.all.now.keys c.requires)

pub returns-in_err-insert-clause-some : goal.returns-in_err-insert-clause-some
returns-in_err-insert-clause-some c = on_err _ (orders_with_near c.args.edge.now c.args.all.now.keys c.put.new.self
    (c.in_ok-put.ensures.all c.args.all.now.keys c.requires))

pub returns-clause-orders : goal.returns-clause-orders
returns-clause-orders c = subst (λ (es : List Edge). AreOrders es c.put.new.self)
    (sym (c.in_ok-insert.ensures.keys ∙ ap (insert_key edge_cmp c.args.all.now.keys) c.in_ok-copied.ensures))
    (c.in_ok-put.ensures.all c.args.all.now.keys c.requires)
