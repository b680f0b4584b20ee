use Rattle.automaton.proofs.Sets.{has_or}
use Rattle.automaton.proofs.position_set.PositionSet.add_all.Goals as goal
use Rattle.std.proofs.Common.{arith}

pub returns : goal.returns
returns c =
    rw (← c.self.view_is, ← c.other.view_is)
    (has_or _ _ _ (λ k small. c.loop-k.invariant.done k (omega arith)))
