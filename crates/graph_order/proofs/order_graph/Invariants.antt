use Rattle.graph_order.proofs.Whole.{HasMade}
use Rattle.graph_order.proofs.order_graph.Given as goal

abbrev pub invariant-loop-number : goal.invariant-loop-number
invariant-loop-number l = HasMade l.limits l.initial.made l.orders l.number l.made
