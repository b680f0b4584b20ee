use Rattle.std.proofs.Common.{◌≡◌, ◌≤◌, ◌-◌, length, true, false}
use Rattle.std.specs.List.{AllWithin}
use Rattle.list_lookup.specs.Picked.{passes}
use Rattle.list_lookup.proofs.first_past.Given as goal

-- what is before `low` passes, and nothing from `high` on
abbrev pub invariant-loop-low : goal.invariant-loop-low
invariant-loop-low g l = (l.low ≤ l.high) × (l.high ≤ length l.items)
    × AllWithin (λ x. passes l.through (g.Q.Query.at l.query x) ≡ true) l.items 0 l.low
    × AllWithin (λ x. passes l.through (g.Q.Query.at l.query x) ≡ false) l.items l.high (length l.items)

abbrev pub decreases-loop-low : goal.decreases-loop-low
decreases-loop-low g l = l.high - l.low
