use Rattle.std.proofs.Common.{◌+◌}
use Rattle.planner.proofs.Done.{IsUnderWay, false_count}
use Rattle.planner.proofs.steps.make_plan.Given as goal

abbrev pub invariant-loop-step : goal.invariant-loop-step
invariant-loop-step l = IsUnderWay l.sizes l.arcs l.shapes l.fn.bound l.used.items l.bound.items l.from l.steps.items

abbrev pub decreases-loop-step : goal.decreases-loop-step
decreases-loop-step l = false_count l.used.items + false_count l.bound.items
