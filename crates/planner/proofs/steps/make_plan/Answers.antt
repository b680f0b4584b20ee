use Rattle.planner.proofs.Done.{under_way-more, under_way-end, step_smaller, plan_uses}
use Rattle.std.proofs.Common.{refl}
use Rattle.planner.proofs.Unique.{none_twice, steps_over}
use Rattle.planner.proofs.steps.make_plan.Goals as goal

pub loop-step-smaller : goal.loop-step-smaller
loop-step-smaller c = step_smaller _ _ _ _ _ _ _ _ c.in-Some.ensures.step

pub loop-step-preserved : goal.loop-step-preserved
loop-step-preserved c = rw c.in_ok-push.ensures.items (under_way-more _ _ _ _ _ _ _ _ _ _ _ _ c.loop-step.invariant c.in-Some.ensures.lengths.0 c.in-Some.ensures.lengths.1 c.in-Some.ensures.step c.in-Some.ensures.costly_before)

pub returns-clause-uses_all : goal.returns-clause-uses_all
returns-clause-uses_all c = plan_uses c.args.sizes c.args.arcs.now c.args.shapes.now _ _ (under_way-end _ _ _ _ _ _ _ _ c.loop-step.invariant c.in_default.ensures.step.0)

pub returns-clause-none_twice : goal.returns-clause-none_twice
returns-clause-none_twice c = let p = under_way-end _ _ _ _ _ _ _ _ c.loop-step.invariant c.in_default.ensures.step.0 in none_twice c.args.sizes c.args.arcs.now c.args.shapes.now _ _ _ p.leads

pub returns-clause-in_range : goal.returns-clause-in_range
returns-clause-in_range c = let p = under_way-end _ _ _ _ _ _ _ _ c.loop-step.invariant c.in_default.ensures.step.0 in steps_over c.args.sizes c.args.arcs.now c.args.shapes.now _ _ _ _ refl p.leads

pub advance-requires-clause-costly_before : goal.advance-requires-clause-costly_before
advance-requires-clause-costly_before c = c.loop-step.invariant.costly
