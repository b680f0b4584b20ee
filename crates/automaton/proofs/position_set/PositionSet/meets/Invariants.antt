use Rattle.std.proofs.Common.{◌≡◌, ℕ, ◌<◌, slice_index}
use Rattle.std.specs.Prelude.{bit_and}
use Rattle.automaton.proofs.position_set.PositionSet.meets.Given as goal

abbrev pub invariant-loop-k : goal.invariant-loop-k
invariant-loop-k l = (k : ℕ) → k < l.k → bit_and (slice_index l.self-inside.words k) (slice_index l.other-inside.words k) ≡ 0
