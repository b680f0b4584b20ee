use Rattle.std.proofs.Common.{◌≡◌, take, map}
use Rattle.std.specs.Prelude.{◌%◌}
use Rattle.index_store.proofs.ranks.joined_places.Given as goal

abbrev pub invariant-loop-number : goal.invariant-loop-number
invariant-loop-number l = l.places.items ≡ map (λ j. j % 4294967296) (take l.number-index l.joined)
