use Rattle.std.proofs.Common.{◌+◌}
use Rattle.walks.specs.declared.direction.Direction.TheVariants.{Onward, Backward}
use Rattle.walks.specs.Search.{IsUnderWay, left}
use Rattle.walks.proofs.search.first_to_end.Given as goal

abbrev pub invariant-loop-backward : goal.invariant-loop-backward
invariant-loop-backward g l =
    record {
      onward : IsUnderWay (g.S.Store.graph l.store) l.automaton Onward l.start l.onward;
      backward : IsUnderWay (g.S.Store.graph l.store) l.automaton Backward l.end l.backward;
    }

abbrev pub decreases-loop-backward : goal.decreases-loop-backward
decreases-loop-backward g l =
    left (g.S.Store.graph l.store) l.automaton Onward l.onward + left (g.S.Store.graph l.store) l.automaton Backward l.backward
