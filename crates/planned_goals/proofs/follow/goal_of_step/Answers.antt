use Rattle.planned_goals.proofs.follow.goal_of_step.Goals as goal

pub returns-in_ok-goal-in-Use : goal.returns-in_ok-goal-in-Use
returns-in_ok-goal-in-Use c = rw c.in-Use.is (c.condition_at-condition.result.now, c.condition_at-condition.ensures, c.in_ok-goal-in-Use.ensures)
