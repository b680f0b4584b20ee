use Rattle.automaton.proofs.Sets.{meet_at, apart_all}
use Rattle.std.proofs.Common.{arith, refl}
use Rattle.automaton.proofs.position_set.PositionSet.meets.Goals as goal

pub returns-then-self-k-ne0 : goal.returns-then-self-k-ne0
returns-then-self-k-ne0 c =
    let m = meet_at c.self.inside.words c.other.inside.words c.loop-k.k (omega arith) (omega arith) (omega arith) c.if-self-k-ne0.true in
    rw (← c.self.view_is, ← c.other.view_is) (λ e. m, λ h. refl)

pub returns : goal.returns
returns c =
    let z = apart_all c.self.inside.words c.other.inside.words (λ k small. c.loop-k.invariant k (omega arith)) in
    rw (← c.self.view_is, ← c.other.view_is) (λ e. absurd (cc), λ h. absurd (z h.0 h.1 h.2))
