use Rattle.std.proofs.Common.{◌≡◌, ◌≤◌, take, length}
use Rattle.list_lookup.specs.Picked.{in_place}
use Rattle.list_lookup.proofs.count.Given as goal

abbrev pub invariant-loop-item : goal.invariant-loop-item
invariant-loop-item g l = (l.number ≡ length (in_place (g.Q.Query.at l.query) (take l.item-index l.items))) × (l.number ≤ l.item-index)
