-- Lists of pairs, and the marks that tell which pairs a list has.
use Rattle.std.specs.Prelude.{◌≡◌, ℕ, ◌+◌, ◌*◌, ◌<◌, ◌≤◌, Bool, true, false, cond, List, ◌++◌, length, Contains}
use Rattle.std.specs.Prelude.{slice_index, sum_by, bit_and}
use Rattle.std.specs.List.{slice_index_or}
use Rattle.automaton.specs.PositionSet.{Has}
use Rattle.inclusion.specs.declared.search.Pair.{Pair}

-- each marked pair is in the list
abbrev pub AreListed : ℕ → List Bool → List Pair → Type 0
AreListed width marks order =
    (p s : ℕ) → s < width → slice_index_or marks (p * width + s) false ≡ true
    → Contains order (record { position = p; set = s })

-- the pair of one of the positions, with those of the reached positions that cover it
abbrev pub IsPairOf : ℕ → List ℕ → ℕ → List ℕ → Pair → Type 0
IsPairOf count positions reach covers x =
    (p : ℕ) × (p < count) × Has positions p ×
    (x ≡ record { position = p; set = bit_and reach (slice_index covers p) })

-- how many aren't marked
abbrev pub unmarked : List Bool → ℕ
unmarked marks = sum_by (λ m. cond m 0 1) marks

-- pairs of a kind are added to the end, and each addition sets a mark
pub record Grows (P : Pair → Type 0) (old_marks new_marks : List Bool)
    (old_order new_order : List Pair) : Type 0 where
  pub more : (more : List Pair) × (new_order ≡ old_order ++ more)
      × ((x : Pair) → Contains more x → P x)
  pub size : length new_marks ≡ length old_marks
  pub left : unmarked new_marks + length new_order ≡ unmarked old_marks + length old_order

abbrev pub HasEach : (Pair → Type 0) → List Pair → Type 0
HasEach P order = (x : Pair) → P x → Contains order x

-- a longer list, with the number at each new place
pub record Fills (old new : List ℕ) (count number : ℕ) : Type 0 where
  pub len : length new ≡ count
  pub kept : (k : ℕ) → k < length old → slice_index new k ≡ slice_index old k
  pub filled : (k : ℕ) → length old ≤ k → k < count → slice_index new k ≡ number
