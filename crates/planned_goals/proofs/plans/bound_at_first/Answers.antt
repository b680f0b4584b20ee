use Rattle.std.proofs.Common.{◌∙◌, ◌+◌, ap}
use Rattle.planned_goals.proofs.Made.{length_push}
use Rattle.planned_goals.proofs.plans.bound_at_first.Goals as goal

pub loop-value-preserved : goal.loop-value-preserved
loop-value-preserved c = rw c.in_ok-push.ensures.items (length_push _ _ ∙ ap (λ n. n + 1) c.loop-value.invariant)
