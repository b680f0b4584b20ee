use Rattle.std.proofs.Common.{◌≡◌, take, map}
use Rattle.index_store.specs.Ranks.{targets}
use Rattle.index_store.proofs.orders.label_ranks.Given as goal

abbrev pub invariant-loop-edge : goal.invariant-loop-edge
invariant-loop-edge l = targets l.labels.items ≡ map (λ e. e.label) (take l.edge-index l.edges)
