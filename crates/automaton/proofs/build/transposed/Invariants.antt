use Rattle.std.proofs.Common.{◌≡◌, ℕ, ◌<◌, vec_len}
use Rattle.automaton.specs.Table.{row, IsBefore}
use Rattle.automaton.proofs.build.transposed.Given as goal

abbrev pub invariant-loop-p : goal.invariant-loop-p
invariant-loop-p l = record {
  len : vec_len l.turned ≡ l.p;
  turned : (p : ℕ) → p < l.p → IsBefore l.rows.items p (row l.turned.items p);
}
