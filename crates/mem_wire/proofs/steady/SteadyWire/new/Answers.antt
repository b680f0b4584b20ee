use Rattle.std.proofs.Common.{false, [], ap, ◌∙◌}
use Rattle.mem_wire.specs.WireInMemory.{WireInMemory, entry_of}
use Rattle.mem_wire.proofs.SteadyLemmas.{new_fine}
use Rattle.mem_wire.proofs.steady.SteadyWire.new.Goals as goal

pub invariant_of-result : goal.invariant_of-result
invariant_of-result c = record {
  calls = ap (λ (w : WireInMemory). w.failing) c.in_ok-wire.ensures.told ∙ c.new-failing.ensures.items;
  sends = ap (λ (w : WireInMemory). w.sends) c.in_ok-wire.ensures.told ∙ c.new-sends.ensures.items;
  fine = λ e number. new_fine (entry_of c.in_ok-wire.wire number) (c.in_ok-wire.ensures.entries number);
}

pub returns-clause-told : goal.returns-clause-told
returns-clause-told c = c.in_ok-wire.ensures.told ∙ (λ i. record {
  events = c.args.events.items;
  count = 0;
  failing = c.new-failing.ensures.items i;
  sends = c.new-sends.ensures.items i;
  calls = 0;
  next_faults = 0;
  listens = 0;
  port = 0;
  connections = 0;
  watches = 0;
  path = [];
  every = 0;
  entries = c.in_ok-wire.wire.entries;
  is_short = false;
  trace = [];
})
