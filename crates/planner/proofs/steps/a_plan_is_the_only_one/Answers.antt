use Rattle.planner.proofs.Unique.{one_plan}
use Rattle.planner.proofs.steps.a_plan_is_the_only_one.Goals as goal

pub returns : goal.returns
returns c = one_plan
