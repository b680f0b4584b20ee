use Rattle.std.proofs.Common.{◌≡◌, ℕ, ◌<◌}
use Rattle.std.specs.Prelude.{Some, slice_get}
use Rattle.query_spec.specs.declared.Variable.{Variable}
use Rattle.planned_goals.proofs.plans.are_same_variables.Given as goal

abbrev pub invariant-loop-i : goal.invariant-loop-i
invariant-loop-i l = (k : ℕ) (a b : Variable) → k < l.i → slice_get l.some k ≡ Some a → slice_get l.others k ≡ Some b → a ≡ b
