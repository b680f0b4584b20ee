use Rattle.std.proofs.Common.{◌≡◌, take}
use Rattle.list_lookup.specs.Picked.{picked}
use Rattle.list_lookup.proofs.scan.Given as goal

abbrev pub invariant-loop-item : goal.invariant-loop-item
invariant-loop-item g l = l.found.items ≡ picked (g.Q.Query.at l.query) g.Q.Query.gives (take l.item-index l.items)
