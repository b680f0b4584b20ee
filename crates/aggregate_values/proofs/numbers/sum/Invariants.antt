use Rattle.std.proofs.Common.{◌*◌, ◌^◌}
use Rattle.std.specs.Prelude.{pos, neg_ℤ, ◌≤ℤ◌}
use Rattle.aggregate_values.proofs.Adding.{Kept}
use Rattle.aggregate_values.proofs.numbers.sum.Given as goal

abbrev pub invariant-loop-i : goal.invariant-loop-i
invariant-loop-i l = record {
  kept : Kept l.parts l.i l.total l.found;
  low : neg_ℤ (pos (l.i * 2 ^ 63)) ≤ℤ l.total;
  high : l.total ≤ℤ pos (l.i * 2 ^ 63);
}
