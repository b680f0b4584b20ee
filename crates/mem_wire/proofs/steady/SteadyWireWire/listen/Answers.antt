use Rattle.std.proofs.Common.{◌∙◌}
use Rattle.mem_wire.proofs.SteadyLemmas.{none_fails, never_err, same_count, called_steady}
use Rattle.mem_wire.proofs.steady.SteadyWireWire.listen.Goals as goal

pub invariant_of-self : goal.invariant_of-self
invariant_of-self c =
    called_steady c.self.inside.wire c.listen.new.self c.self.invariant c.listen.ensures.lists c.listen.ensures.same_short
    c.listen.ensures.stays.1

pub returns-clause-listens : goal.returns-clause-listens
returns-clause-listens c = rw (← c.self.view_is) c.listen.ensures.listens

pub returns-clause-stays : goal.returns-clause-stays
returns-clause-stays c = rw (← c.self.view_is) c.listen.ensures.stays

pub returns-clause-fine : goal.returns-clause-fine
returns-clause-fine c = same_count c.listen.result

pub returns-clause-failed : goal.returns-clause-failed
returns-clause-failed c = never_err c.listen.result (c.listen.ensures.fails ∙ none_fails c.self.inside.wire c.self.invariant)

pub returns-clause-traced : goal.returns-clause-traced
returns-clause-traced c = rw (← c.self.view_is) c.listen.ensures.traced
