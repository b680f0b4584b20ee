use Rattle.std.proofs.Common.{nat_cmp, arith, sym}
use Rattle.std.specs.BTreeMap.{get}
use Rattle.mem_wire.proofs.EntryLemmas.{all_more, all_events}
use Rattle.mem_wire.proofs.entries_of.Goals as goal

pub loop-event-preserved : goal.loop-event-preserved
loop-event-preserved c = (
  c.in_ok-open.ensures.new c.loop-event.invariant.0,
  all_more (get nat_cmp c.loop-event.entries) (get nat_cmp c.open.new.entries) c.args.events.now c.loop-event.event-index c.event-item.result c.loop-event-test.true (sym c.event-item.is)
      c.in_ok-open.ensures.stay c.in_ok-open.ensures.opened c.loop-event.invariant.1,
)

pub returns-clause-opened : goal.returns-clause-opened
returns-clause-opened c = all_events (get nat_cmp c.loop-event.entries) c.args.events.now c.loop-event.event-index (omega arith) c.loop-event.invariant.1
