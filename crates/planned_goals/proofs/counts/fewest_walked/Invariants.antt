use Rattle.candidate_values.specs.Kept.{IsFrom, IsKept}
use Rattle.planned_goals.proofs.counts.fewest_walked.Given as goal

abbrev pub invariant-loop-later : goal.invariant-loop-later
invariant-loop-later g l =
    record {
      from : IsFrom l.search.goals.now l.at l.least.goal;
      kept : IsKept (g.S.Store.graph l.search.store.now) l.search.goals.now l.kept;
    }
