use Rattle.mem_wire.proofs.SteadyLemmas.{none_named, same_count, same_told, called_steady}
use Rattle.mem_wire.proofs.steady.SteadyWireWire.watch.Goals as goal

pub invariant_of-self : goal.invariant_of-self
invariant_of-self c =
    called_steady c.self.inside.wire c.watch.new.self c.self.invariant c.watch.ensures.lists c.watch.ensures.same_short
    c.watch.ensures.stays.1

pub returns-clause-watches : goal.returns-clause-watches
returns-clause-watches c = rw (← c.self.view_is) c.watch.ensures.watches

pub returns-clause-stays : goal.returns-clause-stays
returns-clause-stays c = rw (← c.self.view_is) c.watch.ensures.stays

pub returns-clause-fine : goal.returns-clause-fine
returns-clause-fine c = same_count c.watch.result

pub returns-clause-failed : goal.returns-clause-failed
returns-clause-failed c = λ e. absurd (none_named c.self.inside.wire c.self.invariant (c.watch.ensures.fails e))

pub returns-clause-short : goal.returns-clause-short
returns-clause-short c = rw (← c.self.view_is) (λ e. same_told c.self.inside.wire c.watch.new.self (c.watch.ensures.short e))

pub returns-clause-traced : goal.returns-clause-traced
returns-clause-traced c = rw (← c.self.view_is) c.watch.ensures.traced
