use Rattle.std.proofs.Common.{◌≡◌, ℕ, ◌<◌}
use Rattle.std.specs.Prelude.{Some, slice_get}
use Rattle.struql_ast.specs.declared.Condition.{Condition}
use Rattle.struql_ast.specs.Reading.{condition_of}
use Rattle.planned_goals.proofs.plans.are_same_conditions.Given as goal

abbrev pub invariant-loop-i : goal.invariant-loop-i
invariant-loop-i l = (k : ℕ) (a b : Condition) → k < l.i → slice_get l.some k ≡ Some a → slice_get l.others k ≡ Some b → condition_of a ≡ condition_of b
