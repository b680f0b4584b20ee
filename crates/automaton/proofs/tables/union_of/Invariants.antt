use Rattle.automaton.proofs.Words.{FollowersBelow}
use Rattle.automaton.proofs.tables.union_of.Given as goal

abbrev pub invariant-loop-p : goal.invariant-loop-p
invariant-loop-p l = FollowersBelow l.rows.items l.set l.p l.union
