use Rattle.std.proofs.Common.{◌≡◌, take, map}
use Rattle.index_store.specs.Indexed.{value_at}
use Rattle.index_store.proofs.values_at.Given as goal

abbrev pub invariant-loop-place : goal.invariant-loop-place
invariant-loop-place l = l.values.items ≡ map (value_at l.graph) (take l.place-index l.places)
