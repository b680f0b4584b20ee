use Rattle.std.proofs.Common.{refl}
use Rattle.planner.proofs.Best.{best-all, best-behind}
use Rattle.planner.proofs.steps.best.Goals as goal

pub returns-then-from-eq0 : goal.returns-then-from-eq0
returns-then-from-eq0 c = best-all _ _ _ _ _ _ c.if-from-eq0.true c.best_from-next.ensures

pub returns-then-costs_nothing : goal.returns-then-costs_nothing
returns-then-costs_nothing c = best-behind _ _ _ _ _ _ c.requires.costly_before (c.costs_nothing.ensures.0 c.if-costs_nothing.true) c.best_from-next.ensures

pub returns : goal.returns
returns c = best-all _ _ _ _ _ _ refl c.best_from.ensures
