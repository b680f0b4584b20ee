use Rattle.std.proofs.Common.{refl, ap, ◌∙◌, ◌+◌}
use Rattle.planner.proofs.Done.{all_false-nil, all_false-push, length-push}
use Rattle.planner.proofs.steps.none_used.Goals as goal

pub loop-init : goal.loop-init
loop-init c = rw c.new-used.ensures.items (refl, all_false-nil)

pub loop-preserved : goal.loop-preserved
loop-preserved c = rw c.in_ok-push.ensures.items (length-push _ _ ∙ ap (λ n. n + 1) c.loop.invariant.0, all_false-push _ c.loop.invariant.1)
