-- Where a text stands in another one. A text is the list of its bytes; s is not empty wherever
-- these are used.
use Rattle.std.specs.Prelude.{◌≡◌, ◌≤◌, ℕ, List, [], ◌∷◌, ◌++◌, length}
use Rattle.value_texts.specs.Texts.{TextHolds}
use Rattle.value_texts.specs.declared.TextTest.TheVariants.{Has}

-- t is front, then s, then back, and no s begins earlier in t
pub record IsFirstAt (s t front back : List ℕ) : Type 0 where
  pub whole : t ≡ front ++ (s ++ back)
  pub first : (f b : List ℕ) → t ≡ f ++ (s ++ b) → length front ≤ length f

-- the parts of t between the s in it, which are taken leftmost first and without overlap
abbrev pub AreParts : List ℕ → List ℕ → List (List ℕ) → Type 0
AreParts s t [] = ⊥
AreParts s t (part ∷ []) = (part ≡ t) × ¬ (TextHolds Has t s)
AreParts s t (part ∷ next ∷ parts) =
    (back : List ℕ) × IsFirstAt s t part back × AreParts s back (next ∷ parts)
