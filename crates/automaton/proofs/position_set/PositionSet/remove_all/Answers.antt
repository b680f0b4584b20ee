use Rattle.automaton.proofs.Sets.{has_and_not}
use Rattle.automaton.proofs.position_set.PositionSet.remove_all.Goals as goal
use Rattle.std.proofs.Common.{arith}

pub returns : goal.returns
returns c =
    rw (← c.self.view_is, ← c.other.view_is)
    (has_and_not _ _ _ (λ k small. c.loop-k.invariant.fits k (omega arith)) (λ k small. c.loop-k.invariant.done k (omega arith)))
