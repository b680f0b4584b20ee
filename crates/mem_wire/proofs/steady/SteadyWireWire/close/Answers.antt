use Rattle.std.proofs.Common.{refl}
use Rattle.mem_wire.proofs.SteadyLemmas.{still_steady}
use Rattle.mem_wire.proofs.steady.SteadyWireWire.close.Goals as goal

pub invariant_of-self : goal.invariant_of-self
invariant_of-self c =
    still_steady c.self.inside.wire c.close.new.self c.self.invariant c.close.ensures.lists c.close.ensures.same_short
    c.close.ensures.faults_stay

pub returns-clause-closed : goal.returns-clause-closed
returns-clause-closed c = rw (← c.self.view_is) c.close.ensures.closed

pub returns-clause-others : goal.returns-clause-others
returns-clause-others c = rw (← c.self.view_is) c.close.ensures.others

pub returns-clause-faults_stay : goal.returns-clause-faults_stay
returns-clause-faults_stay c = rw (← c.self.view_is) c.close.ensures.faults_stay

pub returns-clause-stays : goal.returns-clause-stays
returns-clause-stays c =
    let stays = c.close.ensures.stays in
    rw (← c.self.view_is) (stays.0, stays.1, stays.2, refl, stays.4)

pub returns-clause-traced : goal.returns-clause-traced
returns-clause-traced c = rw (← c.self.view_is) c.close.ensures.traced
