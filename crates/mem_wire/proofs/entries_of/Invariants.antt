use Rattle.std.proofs.Common.{ℕ, IfSome, nat_cmp, All, take}
use Rattle.std.specs.BTreeMap.{get}
use Rattle.mem_wire.specs.WireInMemory.{IsNew, HasEntry}
use Rattle.mem_wire.proofs.entries_of.Given as goal

abbrev pub invariant-loop-event : goal.invariant-loop-event
invariant-loop-event l =
    ((number : ℕ) → IfSome (get nat_cmp l.entries number) IsNew)
    × All (HasEntry (get nat_cmp l.entries)) (take l.event-index l.events)
