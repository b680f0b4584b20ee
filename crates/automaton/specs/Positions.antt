-- The positions of an expression: its labels and wildcards, numbered from 0, from the left.
use Rattle.std.specs.Prelude.{◌≡◌, ℕ, ◌+◌, Bool, true, false, ◌&&◌, ◌||◌, IsTrue, List, [], ◌∷◌, ◌++◌, ◌⊎◌, Option, Some, None, slice_get}
use Rattle.rpe.specs.Regex.{Label, Regex, label, any, empty, seq, alt, star}
use Rattle.rpe.specs.Language.{positions}

-- what is at each position: a label, or none for a wildcard
abbrev pub letters_of : Regex → List (Option Label)
letters_of (label l) = Some l ∷ []
letters_of any = None ∷ []
letters_of empty = []
letters_of (seq a b) = letters_of a ++ letters_of b
letters_of (alt a b) = letters_of a ++ letters_of b
letters_of (star a) = letters_of a

-- the empty word belongs to the expression
abbrev pub has_empty_of : Regex → Bool
has_empty_of (label l) = false
has_empty_of any = false
has_empty_of empty = true
has_empty_of (seq a b) = has_empty_of a && has_empty_of b
has_empty_of (alt a b) = has_empty_of a || has_empty_of b
has_empty_of (star a) = true

-- the number is above n by some number of which the fact holds
abbrev pub Above : ℕ → (ℕ → Type 0) → ℕ → Type 0
Above n P p = (q : ℕ) × (p ≡ n + q) × P q

-- a word may begin at the position
abbrev pub IsFirst : Regex → ℕ → Type 0
IsFirst (label l) p = p ≡ 0
IsFirst any p = p ≡ 0
IsFirst empty p = ⊥
IsFirst (seq a b) p = IsFirst a p ⊎ (IsTrue (has_empty_of a) × Above (positions a) (IsFirst b) p)
IsFirst (alt a b) p = IsFirst a p ⊎ Above (positions a) (IsFirst b) p
IsFirst (star a) p = IsFirst a p

-- a word may end at the position
abbrev pub IsLast : Regex → ℕ → Type 0
IsLast (label l) p = p ≡ 0
IsLast any p = p ≡ 0
IsLast empty p = ⊥
IsLast (seq a b) p = Above (positions a) (IsLast b) p ⊎ (IsTrue (has_empty_of b) × IsLast a p)
IsLast (alt a b) p = IsLast a p ⊎ Above (positions a) (IsLast b) p
IsLast (star a) p = IsLast a p

-- both numbers are above n by numbers that are related
abbrev pub BothAbove : ℕ → (ℕ → ℕ → Type 0) → ℕ → ℕ → Type 0
BothAbove n R p q = Above n (λ r. Above n (R r) q) p

-- q may be right after p in a word
abbrev pub Follows : Regex → ℕ → ℕ → Type 0
Follows (label l) p q = ⊥
Follows any p q = ⊥
Follows empty p q = ⊥
Follows (seq a b) p q =
    Follows a p q ⊎ BothAbove (positions a) (Follows b) p q
    ⊎ (IsLast a p × Above (positions a) (IsFirst b) q)
Follows (alt a b) p q = Follows a p q ⊎ BothAbove (positions a) (Follows b) p q
Follows (star a) p q = Follows a p q ⊎ (IsLast a p × IsFirst a q)

-- the letter is at a position with this label or none
abbrev pub Fits : Option Label → Label → Type 0
Fits None l = Unit {0}
Fits (Some k) l = k ≡ l

abbrev pub ReadsIn : List (Option Label) → ℕ → Label → Type 0
ReadsIn letters p l = (k : Option Label) × (slice_get letters p ≡ Some k) × Fits k l

abbrev pub Reads : Regex → ℕ → Label → Type 0
Reads e p l = ReadsIn (letters_of e) p l
