use Rattle.std.proofs.lemmas.Option.{slice_get-get_or}
use Rattle.planned_goals.proofs.Made.{along-none, along-more, step_over}
use Rattle.planned_goals.proofs.follow.goals_along.Goals as goal

pub loop-step-init : goal.loop-step-init
loop-step-init c = rw c.new-goals.ensures.items (along-none c.args.variables.now c.args.conditions.now)

pub goal_of_step-requires-clause-in_range : goal.goal_of_step-requires-clause-in_range
goal_of_step-requires-clause-in_range c = step_over _ _ _ _ _ c.requires.in_range (slice_get-get_or _ _ _ c.loop-step-test.true)

pub loop-step-preserved : goal.loop-step-preserved
loop-step-preserved c =
    rw c.in_ok-push.ensures.items
    (along-more c.args.variables.now c.args.conditions.now _ _ _ _ _ (slice_get-get_or _ _ _ c.loop-step-test.true) c.loop-step.invariant c.in_ok-goal.ensures)
