use Rattle.std.proofs.Common.{◌≡◌, ◌≤◌, ◌-◌, length, true}
use Rattle.std.specs.List.{AllWithin}
use Rattle.list_lookup.specs.Picked.{passes}
use Rattle.index_store.proofs.spans.end_near.Given as goal

-- what is before `at` passes
abbrev pub invariant-loop-at : goal.invariant-loop-at
invariant-loop-at g l = (l.at ≤ length l.items)
    × AllWithin (λ x. passes l.through (g.Q.Query.at l.query x) ≡ true) l.items 0 l.at

abbrev pub decreases-loop-at : goal.decreases-loop-at
decreases-loop-at g l = length l.items - l.at
