use Rattle.std.proofs.Common.{length, ◌-◌}
use Rattle.template_items.proofs.Scanned.{Reached}
use Rattle.template_items.proofs.scanning.items.Given as goal

abbrev pub invariant-items : goal.invariant-items
invariant-items l = Reached l.bytes l.state l.items.items

abbrev pub decreases-items : goal.decreases-items
decreases-items l = length l.bytes - l.state.place
