use Rattle.std.proofs.Common.{◌≡◌, take, map}
use Rattle.index_store.proofs.ranks.places_of.Given as goal

abbrev pub invariant-loop-one : goal.invariant-loop-one
invariant-loop-one g l = l.places.items ≡ map (λ k. k.place) (take l.one-index l.keyed)
