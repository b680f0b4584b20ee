-- What building the tables of an expression adds to those of the expressions on its left.
use Rattle.std.specs.Prelude.{◌≡◌, ℕ, IsTrue, ◌&&◌, ◌||◌, ◌<◌, ◌≤◌, List, [], ◌∷◌, ◌++◌, length, Option, ◌⊎◌, ◌↔◌}
use Rattle.automaton.specs.declared.build.Ends.{Ends}
use Rattle.rpe.specs.Regex.{Label, Regex}
use Rattle.automaton.specs.PositionSet.{Has}
use Rattle.automaton.specs.Positions.{letters_of, has_empty_of, Above, BothAbove, IsFirst, IsLast, Follows}
use Rattle.automaton.specs.Table.{row}

pub record IsAdded (e : Regex) (old_letters new_letters : List (Option Label))
    (old_next new_next : List (List ℕ)) (ends : Ends) : Type 0 where
  pub letters : new_letters ≡ old_letters ++ letters_of e
  pub paired : length new_next ≡ length new_letters
  pub has_empty : ends.has_empty ≡ has_empty_of e
  pub first : (p : ℕ) → Has ends.first p ↔ Above (length old_letters) (IsFirst e) p
  pub last : (p : ℕ) → Has ends.last p ↔ Above (length old_letters) (IsLast e) p
  pub old_rows : (p q : ℕ) → p < length old_letters → Has (row new_next p) q
      ↔ Has (row old_next p) q
  pub new_rows : (p q : ℕ) → length old_letters ≤ p → Has (row new_next p) q
      ↔ BothAbove (length old_letters) (Follows e) p q

-- each position of the one set may now be followed by each of the other
abbrev pub Links : List (List ℕ) → List (List ℕ) → List ℕ → List ℕ → Type 0
Links old_next new_next ones others =
    (p q : ℕ) → Has (row new_next p) q ↔ (Has (row old_next p) q ⊎ (Has ones p × Has others q))

-- one position more, with nothing after it
pub record AddsLetter (letter : Option Label) (old_letters new_letters : List (Option Label))
    (old_next new_next : List (List ℕ)) (here : List ℕ) : Type 0 where
  pub letters : new_letters ≡ old_letters ++ letter ∷ []
  pub rows : (empty : List ℕ) × (new_next ≡ old_next ++ empty ∷ []) × ((q : ℕ) → Has empty q → ⊥)
  pub alone : (p : ℕ) → Has here p ↔ (p ≡ length old_letters)

-- the ends of two parts, one after the other
pub record IsSequence (one other both : Ends) : Type 0 where
  pub has_empty : both.has_empty ≡ (one.has_empty && other.has_empty)
  pub first : (p : ℕ) → Has both.first p
      ↔ (Has one.first p ⊎ (IsTrue one.has_empty × Has other.first p))
  pub last : (p : ℕ) → Has both.last p
      ↔ (Has other.last p ⊎ (IsTrue other.has_empty × Has one.last p))

-- the ends of a choice of two parts
pub record IsChoice (one other both : Ends) : Type 0 where
  pub has_empty : both.has_empty ≡ (one.has_empty || other.has_empty)
  pub first : (p : ℕ) → Has both.first p ↔ (Has one.first p ⊎ Has other.first p)
  pub last : (p : ℕ) → Has both.last p ↔ (Has one.last p ⊎ Has other.last p)
