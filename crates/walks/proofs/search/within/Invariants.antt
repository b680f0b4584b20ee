use Rattle.walks.specs.Search.{IsUnderWay, left}
use Rattle.walks.proofs.search.within.Given as goal

abbrev pub invariant-loop-exploration : goal.invariant-loop-exploration
invariant-loop-exploration g l = IsUnderWay (g.S.Store.graph l.store) l.automaton l.direction l.start l.exploration

abbrev pub decreases-loop-exploration : goal.decreases-loop-exploration
decreases-loop-exploration g l = left (g.S.Store.graph l.store) l.automaton l.direction l.exploration
