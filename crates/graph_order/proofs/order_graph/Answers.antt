use Rattle.order_spec.specs.Read.{order_of}
use Rattle.graph_order.proofs.Whole.{next_made, grows_here, answered}
use Rattle.graph_order.proofs.order_graph.Goals as goal

pub returns-in-Err-TooManyEdges : goal.returns-in-Err-TooManyEdges
returns-in-Err-TooManyEdges c =
    grows_here c.args.limits c.args.graph c.args.orders.now c.loop-number.number c.index-orders-number.result c.loop-number-test.true c.index-orders-number.is
    c.loop-number.made c.loop-number.invariant
    (answered c.args.limits (order_of c.index-orders-number.result) c.loop-number.made c.with_order.result c.in-Err-TooManyEdges.field-0 c.with_order.ensures
    c.in-Err-TooManyEdges.is c.in-Err-TooManyEdges.field-0-is)

pub loop-number-preserved : goal.loop-number-preserved
loop-number-preserved c =
    next_made c.args.limits c.args.graph c.args.orders.now c.loop-number.number c.index-orders-number.result c.loop-number-test.true c.index-orders-number.is
    c.loop-number.made c.loop-number.invariant c.in-Ok.next c.in-Ok.ensures
