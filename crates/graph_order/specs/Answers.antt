-- What the answers mean: the graph that the ORDERs make, or the ORDER that makes too many edges.
use Rattle.std.specs.Prelude.{◌≡◌, ◌<◌, ◌+◌, List, take, length, Result, Ok, Err, ⊤}
use Rattle.graph_spec.specs.DataGraph.{DataGraph}
use Rattle.sd_graph.specs.Statement.{IsWithin, HasTooMany_edges}
use Rattle.sd_graph.specs.declared.Limits.{Limits}
use Rattle.sd_graph.specs.declared.GraphRefusal.{GraphRefusal}
use Rattle.sd_graph.specs.declared.GraphRefusal.TheVariants.{TooManyNodes, TooManyEdges, NoMemory}
use Rattle.order_spec.specs.Order.{Order, ordered, all_ordered}
use Rattle.key_spec.specs.Keys.{folded_text}
use Rattle.graph_order.specs.declared.OrderFault.{OrderFault}
use Rattle.graph_order.specs.declared.OrderFault.TheVariants.{TooManyEdges as Grows, NoMemory as OutOfMemory}

-- the graph has room for its nodes, and for its edges and members together
abbrev pub Fits : Limits → DataGraph → Type 0
Fits limits G = IsWithin (record { limits = limits; graph = G })

-- its edges and members are more than the limit
abbrev pub Overflows : Limits → DataGraph → Type 0
Overflows limits G = HasTooMany_edges (record { limits = limits; graph = G })

-- what an answer to one ORDER says
abbrev pub AnswersOrder : Limits → Order → DataGraph → Result DataGraph GraphRefusal → Type 0
AnswersOrder limits o G (Ok H) = (H ≡ ordered folded_text o G) × Fits limits H
AnswersOrder limits o G (Err TooManyNodes) = ⊥
AnswersOrder limits o G (Err TooManyEdges) = Overflows limits (ordered folded_text o G)
AnswersOrder limits o G (Err NoMemory) = ⊤

-- what an answer to all ORDERs says. Where one makes a graph that has no room, its number, from 0,
-- is told
abbrev pub AnswersOrders : Limits → List Order → DataGraph → Result DataGraph OrderFault → Type 0
AnswersOrders limits orders G (Ok H) = (H ≡ all_ordered folded_text orders G) × Fits limits H
AnswersOrders limits orders G (Err (Grows i)) =
    (i < length orders) × Fits limits (all_ordered folded_text (take i orders) G)
    × Overflows limits (all_ordered folded_text (take (i + 1) orders) G)
AnswersOrders limits orders G (Err OutOfMemory) = ⊤
