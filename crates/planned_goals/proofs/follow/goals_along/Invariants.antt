use Rattle.std.proofs.Common.{take}
use Rattle.std.specs.List.{AllZip}
use Rattle.planned_goals.specs.Followed.{IsGoalFor}
use Rattle.planned_goals.proofs.follow.goals_along.Given as goal

abbrev pub invariant-loop-step : goal.invariant-loop-step
invariant-loop-step l = AllZip (IsGoalFor l.variables l.conditions) (take l.step-index l.steps) l.goals.items
