use Rattle.std.proofs.Common.{◌≡◌, take, map}
use Rattle.graph_spec.specs.DataGraph.{node}
use Rattle.index_store.proofs.orders.node_values.Given as goal

abbrev pub invariant-loop-name : goal.invariant-loop-name
invariant-loop-name l = l.values.items ≡ map node (take l.name-index l.nodes)
