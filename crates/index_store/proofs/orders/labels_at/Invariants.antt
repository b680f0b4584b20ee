use Rattle.std.proofs.Common.{◌≡◌, take, map}
use Rattle.index_store.specs.Indexed.{edge_at}
use Rattle.index_store.proofs.orders.labels_at.Given as goal

abbrev pub invariant-loop-position : goal.invariant-loop-position
invariant-loop-position l = l.labels.items ≡ map (λ i. (edge_at l.edges i).label) (take l.position-index l.positions)
