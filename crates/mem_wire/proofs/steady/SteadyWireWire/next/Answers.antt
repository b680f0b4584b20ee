use Rattle.mem_wire.proofs.SteadyLemmas.{none_named, same_count, called_steady}
use Rattle.mem_wire.proofs.steady.SteadyWireWire.next.Goals as goal

pub invariant_of-self : goal.invariant_of-self
invariant_of-self c =
    called_steady c.self.inside.wire c.next.new.self c.self.invariant c.next.ensures.lists c.next.ensures.same_short
    c.next.ensures.stays.1

pub returns-clause-given : goal.returns-clause-given
returns-clause-given c = rw (← c.self.view_is) c.next.ensures.given

pub returns-clause-left : goal.returns-clause-left
returns-clause-left c = rw (← c.self.view_is) c.next.ensures.left

pub returns-clause-err : goal.returns-clause-err
returns-clause-err c = rw (← c.self.view_is) c.next.ensures.err

pub returns-clause-stays : goal.returns-clause-stays
returns-clause-stays c = rw (← c.self.view_is) c.next.ensures.stays

pub returns-clause-fine : goal.returns-clause-fine
returns-clause-fine c = same_count c.next.result

pub returns-clause-failed : goal.returns-clause-failed
returns-clause-failed c = λ e. absurd (none_named c.self.inside.wire c.self.invariant (c.next.ensures.named e))

pub returns-clause-traced : goal.returns-clause-traced
returns-clause-traced c = rw (← c.self.view_is) c.next.ensures.traced
