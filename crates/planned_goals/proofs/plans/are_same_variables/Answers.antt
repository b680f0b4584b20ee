use Rattle.std.proofs.Common.{◌≡◌, ◌<◌, length, arith}
use Rattle.planned_goals.proofs.Same.{same_items}
use Rattle.planned_goals.proofs.plans.are_same_variables.Goals as goal

pub returns : goal.returns
returns c told =
    let long : length c.args.some.now ≡ length c.args.others.now = cc in
    same_items _ _ long (λ k a b within s t. let before : k < c.loop-i.i = omega (arith, within, c.loop-i-test.false) in c.loop-i.invariant k a b before s t)
