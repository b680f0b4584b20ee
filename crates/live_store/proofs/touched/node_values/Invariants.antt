use Rattle.std.proofs.Common.{◌≡◌, ◌++◌, map}
use Rattle.graph_spec.specs.DataGraph.{node}
use Rattle.live_store.proofs.touched.node_values.Given as goal

-- the names so far, and then the rest
abbrev pub invariant-loop-name : goal.invariant-loop-name
invariant-loop-name l = l.values.items ++ map node l.name-iterator ≡ map node l.nodes.keys
