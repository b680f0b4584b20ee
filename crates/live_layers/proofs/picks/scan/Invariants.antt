use Rattle.std.proofs.Common.{◌≡◌, ◌++◌}
use Rattle.list_lookup.specs.Picked.{picked}
use Rattle.live_layers.proofs.picks.scan.Given as goal

-- what was found, and then what is found in the rest
abbrev pub invariant-loop-item : goal.invariant-loop-item
invariant-loop-item g l = l.found.items ++ picked (g.Q.Query.at l.query) g.Q.Query.gives l.item-iterator
    ≡ picked (g.Q.Query.at l.query) g.Q.Query.gives l.items.keys
