use Rattle.candidate_values.specs.Kept.{IsFrom}
use Rattle.planned_goals.proofs.wanted.leading.Given as goal

abbrev pub invariant-loop-later : goal.invariant-loop-later
invariant-loop-later g l = IsFrom l.search.goals.now l.at l.least.goal
