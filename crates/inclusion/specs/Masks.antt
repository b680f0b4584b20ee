-- Sets of a second automaton's positions as numbers, one bit for each, and what they answer to
-- positions of a first.
use Rattle.std.specs.Prelude.{◌≡◌, ℕ, ◌^◌, ◌<◌, ◌↔◌, List, length, Option, Some, None, slice_get, slice_index}
use Rattle.std.specs.Int.{bit_at}
use Rattle.rpe.specs.Regex.{Label}
use Rattle.automaton.specs.PositionSet.{Has}
use Rattle.automaton.specs.Table.{Table, row}
use Rattle.inclusion.specs.declared.masks.Masks.{Masks}

-- the position is in the set
abbrev pub Bit : ℕ → ℕ → Type 0
Bit mask i = bit_at mask i ≡ 1

-- each label that fits the first letter fits the other
abbrev pub Covers : Option Label → Option Label → Type 0
Covers k None = Unit {0}
Covers None (Some l) = ⊥
Covers (Some k) (Some l) = k ≡ l

abbrev pub CoversAt : List (Option Label) → ℕ → List (Option Label) → ℕ → Type 0
CoversAt letters p others i =
    (k l : Option Label) × (slice_get letters p ≡ Some k) × (slice_get others i ≡ Some l)
    × Covers k l

pub record IsMasks (a b : Table) (m : Masks) : Type 0 where
  pub first : (i : ℕ) → Bit m.first i ↔ ((i < length b.letters) × Has b.first i)
  pub last : (i : ℕ) → Bit m.last i ↔ ((i < length b.letters) × Has b.last i)
  pub next_rows : length m.next.items ≡ length b.letters
  pub next : (r i : ℕ) → r < length b.letters → Bit (slice_index m.next.items r) i
      ↔ ((i < length b.letters) × Has (row b.next r) i)
  pub cover_rows : length m.covers.items ≡ length a.letters
  pub below : (p : ℕ) → p < length a.letters → slice_index m.covers.items p < 2 ^ length b.letters
  pub covers : (p i : ℕ) → p < length a.letters → Bit (slice_index m.covers.items p) i
      ↔ CoversAt a.letters p b.letters i

-- the union of the rows of the set's positions
abbrev pub IsReach : List ℕ → ℕ → ℕ → Type 0
IsReach next set reach = (i : ℕ) → Bit reach i ↔ ((r : ℕ) × (r < length next) × Bit set r
    × Bit (slice_index next r) i)
