use Rattle.std.proofs.Common.{◌≡◌, length}
use Rattle.planned_goals.proofs.plans.bound_at_first.Given as goal

abbrev pub invariant-loop-value : goal.invariant-loop-value
invariant-loop-value l = length l.flags.items ≡ l.value-index
