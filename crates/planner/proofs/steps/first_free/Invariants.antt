use Rattle.std.proofs.Common.{◌≡◌, ◌<◌, ℕ, false}
use Rattle.std.specs.Prelude.{slice_get, Some}
use Rattle.planner.proofs.steps.first_free.Given as goal

abbrev pub invariant-loop-x : goal.invariant-loop-x
invariant-loop-x l = (y : ℕ) → y < l.x → slice_get l.bound y ≡ Some false → ⊥
