use Rattle.inclusion.specs.Search.{Fills}
use Rattle.inclusion.proofs.search.fill.Given as goal

abbrev pub invariant-loop-k : goal.invariant-loop-k
invariant-loop-k l = Fills l.initial.from.items l.from.items l._k l.number
