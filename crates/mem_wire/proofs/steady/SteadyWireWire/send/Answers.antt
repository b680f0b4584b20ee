use Rattle.std.proofs.Common.{refl}
use Rattle.mem_wire.proofs.SteadyLemmas.{sent_steady}
use Rattle.mem_wire.proofs.steady.SteadyWireWire.send.Goals as goal

pub invariant_of-self : goal.invariant_of-self
invariant_of-self c =
    sent_steady c.args.connection c.self.inside.wire c.send.new.self c.self.invariant c.send.result c.send.ensures.lists
    c.send.ensures.stays_short c.send.ensures.fine c.send.ensures.cut c.send.ensures.others_fine

pub returns-clause-ok : goal.returns-clause-ok
returns-clause-ok c = rw (← c.self.view_is) c.send.ensures.ok

pub returns-clause-fine : goal.returns-clause-fine
returns-clause-fine c = rw (← c.self.view_is) c.send.ensures.fine

pub returns-clause-failed : goal.returns-clause-failed
returns-clause-failed c = rw (← c.self.view_is) c.send.ensures.failed

pub returns-clause-others : goal.returns-clause-others
returns-clause-others c = rw (← c.self.view_is) c.send.ensures.others

pub returns-clause-others_fine : goal.returns-clause-others_fine
returns-clause-others_fine c = rw (← c.self.view_is) c.send.ensures.others_fine

pub returns-clause-stays : goal.returns-clause-stays
returns-clause-stays c =
    let stays = c.send.ensures.stays in
    rw (← c.self.view_is) (stays.0, stays.1, stays.2, refl, stays.4)

pub returns-clause-traced : goal.returns-clause-traced
returns-clause-traced c = rw (← c.self.view_is) c.send.ensures.traced
