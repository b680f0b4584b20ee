use Rattle.std.proofs.Common.{◌≡◌, ◌+◌, length}
use Rattle.list_lookup.specs.Picked.{in_place}
use Rattle.live_layers.proofs.picks.count_in.Given as goal

-- so many so far, and then so many in the rest
abbrev pub invariant-loop-item : goal.invariant-loop-item
invariant-loop-item g l = l.number + length (in_place (g.Q.Query.at l.query) l.item-iterator)
    ≡ length (in_place (g.Q.Query.at l.query) l.items.keys)
