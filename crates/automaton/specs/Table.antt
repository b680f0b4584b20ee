-- An automaton as its tables, and the words that its positions spell.
use Rattle.std.specs.Prelude.{◌≡◌, ℕ, ◌<◌, length, Bool, IsTrue, List, [], ◌∷◌, Option, ◌↔◌}
use Rattle.std.specs.List.{slice_index_or}
use Rattle.rpe.specs.Regex.{Label, Word, Regex}
use Rattle.automaton.specs.PositionSet.{Has}
use Rattle.automaton.specs.Positions.{letters_of, has_empty_of, IsFirst, IsLast, Follows, ReadsIn}

-- what is at each position, the sets of positions at which a word may begin and end, and for
-- each position the set of those that may be right after it
pub record Table : Type 0 where
  pub letters : List (Option Label)
  pub has_empty : Bool
  pub first : List ℕ
  pub last : List ℕ
  pub next : List (List ℕ)

-- a row of a list of sets, and the empty set past its end
abbrev pub row : List (List ℕ) → ℕ → List ℕ
row rows p = slice_index_or rows p []

-- each position follows the one before it, the first of them follows p, and a word may end at the last
abbrev pub GoesOn : Table → ℕ → List ℕ → Type 0
GoesOn t p [] = Has t.last p
GoesOn t p (q ∷ ps) = Has (row t.next p) q × GoesOn t q ps

-- the positions begin with a first one, follow one another and end with a last one
abbrev pub IsRoute : Table → List ℕ → Type 0
IsRoute t [] = ⊥
IsRoute t (p ∷ ps) = Has t.first p × GoesOn t p ps

-- each position reads its letter of the word, one per letter
abbrev pub ReadsAll : Table → List ℕ → Word → Type 0
ReadsAll t [] [] = Unit {0}
ReadsAll t [] (l ∷ w) = ⊥
ReadsAll t (p ∷ ps) [] = ⊥
ReadsAll t (p ∷ ps) (l ∷ w) = ReadsIn t.letters p l × ReadsAll t ps w

-- the word is spelled by a list of positions, one per letter; the empty word by the table's mark
abbrev pub HasWord : Table → Word → Type 0
HasWord t [] = IsTrue t.has_empty
HasWord t (l ∷ w) = (ps : List ℕ) × IsRoute t ps × ReadsAll t ps (l ∷ w)

-- the table has the positions of the expression
pub record StandsFor (t : Table) (e : Regex) : Type 0 where
  pub letters : t.letters ≡ letters_of e
  pub has_empty : t.has_empty ≡ has_empty_of e
  pub first : (p : ℕ) → Has t.first p ↔ IsFirst e p
  pub last : (p : ℕ) → Has t.last p ↔ IsLast e p
  pub next : (p q : ℕ) → Has (row t.next p) q ↔ Follows e p q

-- the positions whose rows have the position
abbrev pub IsBefore : List (List ℕ) → ℕ → List ℕ → Type 0
IsBefore rows p set = (q : ℕ) → Has set q ↔ ((q < length rows) × Has (row rows q) p)

-- the rows turned around: q is in the row of p where p is in the other row of q
abbrev pub IsTurned : List (List ℕ) → List (List ℕ) → Type 0
IsTurned rows turned = (p q : ℕ) → Has (row turned p) q ↔ Has (row rows q) p
