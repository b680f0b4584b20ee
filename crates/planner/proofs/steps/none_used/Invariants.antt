use Rattle.std.proofs.Common.{◌≡◌, length}
use Rattle.plan_spec.specs.Plan.{AllFalse}
use Rattle.planner.proofs.steps.none_used.Given as goal

abbrev pub invariant-loop : goal.invariant-loop
invariant-loop l = (length l.used.items ≡ l.counter) × AllFalse l.used.items
