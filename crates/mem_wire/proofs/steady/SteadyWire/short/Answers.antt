use Rattle.std.proofs.Common.{sym, ◌∙◌}
use Rattle.mem_wire.proofs.steady.SteadyWire.short.Goals as goal

pub returns-clause-fine : goal.returns-clause-fine
returns-clause-fine c = rw (← c.self.view_is) (λ e number. c.self.invariant.fine (sym c.short.ensures ∙ e) number)
