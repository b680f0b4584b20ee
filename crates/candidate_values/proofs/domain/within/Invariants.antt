use Rattle.std.proofs.Common.{length}
use Rattle.condition_tests.specs.Known.{IsCandidate}
use Rattle.candidate_values.proofs.Parts.{IsSifted}
use Rattle.candidate_values.proofs.domain.within.Given as goal

abbrev pub invariant-loop-value : goal.invariant-loop-value
invariant-loop-value g l = IsSifted (IsCandidate (g.S.Store.graph l.store) l.arc) l.initial.values.items l.values.items l.kept.items

abbrev pub decreases-loop-value : goal.decreases-loop-value
decreases-loop-value g l = length l.values.items
