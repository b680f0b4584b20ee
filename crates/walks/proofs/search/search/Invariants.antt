use Rattle.walks.specs.Search.{IsUnderWay, left}
use Rattle.walks.proofs.search.search.Given as goal

abbrev pub invariant-loop-alloc : goal.invariant-loop-alloc
invariant-loop-alloc g l = IsUnderWay (g.S.Store.graph l.store) l.automaton l.direction l.start l.exploration

abbrev pub decreases-loop-alloc : goal.decreases-loop-alloc
decreases-loop-alloc g l = left (g.S.Store.graph l.store) l.automaton l.direction l.exploration
