use Rattle.inclusion.proofs.Bits.{ReachBelow}
use Rattle.inclusion.proofs.masks.reach_of.Given as goal

abbrev pub invariant-loop-r : goal.invariant-loop-r
invariant-loop-r l = ReachBelow l.next.items l.set l.r l.reach
