use Rattle.std.proofs.Common.{◌≡◌, ℕ, ◌^◌, ◌<◌, ◌≤◌, length, Some, slice_get}
use Rattle.rpe.specs.Regex.{Label}
use Rattle.inclusion.proofs.spelled.unnamed_label.Given as goal

abbrev pub invariant-loop-p : goal.invariant-loop-p
invariant-loop-p l = record {
  fits : l.longest < 2 ^ 63;
  shorter : (i : ℕ) (k : Label) → i < l.p → slice_get l.b.letters i ≡ Some (Some k) → length k ≤ l.longest;
}
