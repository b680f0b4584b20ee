use Rattle.std.proofs.Common.{length}
use Rattle.walks.proofs.Selected.{Selects}
use Rattle.walks.proofs.search.select.Given as goal

abbrev pub invariant-loop-value : goal.invariant-loop-value
invariant-loop-value l = Selects l.automaton l.direction l.start l.initial.seen.entries l.values.items l.seen.entries

abbrev pub decreases-loop-value : goal.decreases-loop-value
decreases-loop-value l = length l.seen.entries
