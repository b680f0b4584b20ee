-- How a list of pairs was made, and the words that lead to them.
use Rattle.std.specs.Prelude.{◌≡◌, ℕ, ◌+◌, ◌<◌, ◌⊎◌, List, length, Option, Some, None, slice_get, slice_index, bit_and}
use Rattle.rpe.specs.Regex.{Label}
use Rattle.automaton.specs.PositionSet.{Has}
use Rattle.automaton.specs.Table.{Table, row}
use Rattle.inclusion.specs.declared.masks.Masks.{Masks}
use Rattle.inclusion.specs.declared.search.Pair.{Pair}
use Rattle.inclusion.specs.Masks.{IsMasks, IsReach}
use Rattle.inclusion.specs.Search.{IsPairOf}

-- the label is none of the letters
abbrev pub IsUnnamed : List (Option Label) → Label → Type 0
IsUnnamed letters other = (i : ℕ) (k : Label) → slice_get letters i ≡ Some (Some k) → k ≡ other → ⊥

-- the letter's label, or the other where any label may stand
abbrev pub filled : Option Label → Label → Label
filled None other = other
filled (Some k) other = k

-- the second pair follows the first
pub record IsStep (a : Table) (m : Masks) (x y : Pair) : Type 0 where
  pub reach : ℕ
  pub is_reach : IsReach m.next.items x.set reach
  pub place : y.position < length a.letters
  pub follows : Has (row a.next x.position) y.position
  pub set : y.set ≡ bit_and reach (slice_index m.covers.items y.position)

-- the pair at place k begins, where its number is 0, or follows an earlier pair, whose place is one
-- less than the number
abbrev pub CameFrom : Table → Masks → List Pair → List ℕ → ℕ → Pair → Type 0
CameFrom a m order from k x =
    ((slice_index from k ≡ 0) × IsPairOf (length a.letters) a.first m.first m.covers.items x)
    ⊎ ((j : ℕ) × (y : Pair) × (slice_index from k ≡ j + 1) × (j < k) × (slice_get order j
    ≡ Some y) × IsStep a m y x)

-- each pair of the list came from an earlier one; at the one at the place the first automaton may
-- end, and the second may not
pub record IsTrail (a b : Table) (order : List Pair) (from : List ℕ) (place : ℕ) : Type 0 where
  pub masks : Masks
  pub are : IsMasks a b masks
  pub len : length from ≡ length order
  pub came : (k : ℕ) (x : Pair) → slice_get order k ≡ Some x → CameFrom a masks order from k x
  pub within : place < length order
  pub ends : (x : Pair) → slice_get order place ≡ Some x → Has a.last x.position
      × (bit_and x.set masks.last ≡ 0)
