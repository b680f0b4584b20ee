use Rattle.std.proofs.Common.{◌≡◌, ◌++◌, take, map}
use Rattle.index_store.specs.Ranks.{targets}
use Rattle.index_store.proofs.orders.push_ends.Given as goal

abbrev pub invariant-loop-edge : goal.invariant-loop-edge
invariant-loop-edge l = targets l.values.items ≡ targets l.fn.values.items ++ map (λ e. e.to) (take l.edge-index l.edges)
