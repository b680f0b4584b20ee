use Rattle.std.proofs.Common.{◌≡◌, ℕ, ◌<◌, ◌≤◌, ◌^◌, length, slice_index, w64}
use Rattle.std.specs.Prelude.{bit_and}
use Rattle.std.specs.Int.{bit_not}
use Rattle.automaton.proofs.position_set.PositionSet.remove_all.Given as goal

abbrev pub invariant-loop-k : goal.invariant-loop-k
invariant-loop-k l = record {
  len : length l.self-inside.words ≡ 4;
  done : (k : ℕ) → k < l.k → slice_index l.self-inside.words k ≡ bit_and (slice_index l.initial.self-inside.words k) (bit_not w64 (slice_index l.other-inside.words k));
  fits : (k : ℕ) → k < l.k → slice_index l.other-inside.words k < 2 ^ 64;
  rest : (k : ℕ) → l.k ≤ k → slice_index l.self-inside.words k ≡ slice_index l.initial.self-inside.words k;
}
