use Rattle.std.proofs.Common.{◌<◌, length, arith, false}
use Rattle.std.proofs.lemmas.Option.{slice_get-get_or}
use Rattle.planner.proofs.Best.{best-init, best-more, best-end, best-free}
use Rattle.planner.proofs.steps.best_from.Goals as goal

pub loop-i-init : goal.loop-i-init
loop-i-init c = best-init _ _ _ _ _

pub returns-then-costs_nothing : goal.returns-then-costs_nothing
returns-then-costs_nothing c =
    let lt : c.loop-i.i < length c.args.used.now = omega (arith, c.loop-i-test.true, c.requires.as_long) in
    best-free _ _ _ _ _ _ _ (c.costs_nothing.ensures.0 c.if-costs_nothing.true)
    (best-more _ _ _ _ _ _ _ _ _ _ _ (slice_get-get_or c.args.used.now c.loop-i.i false lt) (slice_get-get_or c.args.shapes.now c.loop-i.i _ c.loop-i-test.true) c.open_cost-cost.ensures c.loop-i.invariant c.better-best.ensures)

pub loop-i-preserved : goal.loop-i-preserved
loop-i-preserved c =
    let lt : c.loop-i.i < length c.args.used.now = omega (arith, c.loop-i-test.true, c.requires.as_long) in
    best-more _ _ _ _ _ _ _ _ _ _ _ (slice_get-get_or c.args.used.now c.loop-i.i false lt) (slice_get-get_or c.args.shapes.now c.loop-i.i _ c.loop-i-test.true) c.open_cost-cost.ensures c.loop-i.invariant c.better-best.ensures

pub returns : goal.returns
returns c = best-end _ _ _ _ _ _ _ c.loop-i-test.false c.loop-i.invariant
