use Rattle.std.proofs.Common.{◌≡◌, ℕ, ◌<◌, ◌≤◌, length, slice_index}
use Rattle.std.specs.Prelude.{bit_or}
use Rattle.automaton.proofs.position_set.PositionSet.add_all.Given as goal

abbrev pub invariant-loop-k : goal.invariant-loop-k
invariant-loop-k l = record {
  len : length l.self-inside.words ≡ 4;
  done : (k : ℕ) → k < l.k → slice_index l.self-inside.words k ≡ bit_or (slice_index l.initial.self-inside.words k) (slice_index l.other-inside.words k);
  rest : (k : ℕ) → l.k ≤ k → slice_index l.self-inside.words k ≡ slice_index l.initial.self-inside.words k;
}
