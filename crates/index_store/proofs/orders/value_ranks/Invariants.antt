use Rattle.std.proofs.Common.{◌≡◌, take}
use Rattle.index_store.specs.Ranks.{targets}
use Rattle.index_store.proofs.orders.value_ranks.Given as goal

abbrev pub invariant-loop-node : goal.invariant-loop-node
invariant-loop-node l = targets l.values.items ≡ take l.node-index l.nodes
