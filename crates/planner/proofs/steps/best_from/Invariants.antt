use Rattle.planner.proofs.Best.{IsBestBetween}
use Rattle.planner.proofs.steps.best_from.Given as goal

abbrev pub invariant-loop-i : goal.invariant-loop-i
invariant-loop-i l = IsBestBetween l.sizes l.shapes l.used l.bound l.from l.i l.best
