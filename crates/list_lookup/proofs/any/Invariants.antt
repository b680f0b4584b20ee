use Rattle.std.proofs.Common.{take}
use Rattle.list_lookup.specs.Picked.{HasOne}
use Rattle.list_lookup.proofs.any.Given as goal

abbrev pub invariant-loop-item : goal.invariant-loop-item
invariant-loop-item g l = HasOne (g.Q.Query.at l.query) (take l.item-index l.items) → ⊥
