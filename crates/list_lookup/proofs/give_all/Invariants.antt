use Rattle.std.proofs.Common.{◌≡◌, take, map}
use Rattle.list_lookup.proofs.give_all.Given as goal

abbrev pub invariant-loop-item : goal.invariant-loop-item
invariant-loop-item g l = l.given.items ≡ map g.Q.Query.gives (take l.item-index l.items)
