-- Blanks and other bytes at the end of a text.
use Rattle.std.specs.Prelude.{◌≡◌, ◌≢◌, ◌⊎◌, ℕ, Bool, true, false, nat_eq, List, [], ◌∷◌, ◌++◌, Option, Some, None, option_map, if◌then◌else◌}
use Rattle.std.proofs.Common.{refl, sym, ◌∙◌, ap, inl, inr}
use Rattle.std.proofs.lemmas.Bool.{cases_Bool, eqb-true, eq-eqb}
use Rattle.text_source.specs.Values.{is_blank, kept, before_blanks, before_last, enclosed}
use Rattle.text_source.specs.Cuts.{without_return}

pub blank_last : (front : List ℕ) (b : ℕ) → is_blank b ≡ true → before_blanks (front ++ b ∷ []) ≡ before_blanks front
blank_last [] b h = rw h refl
blank_last (c ∷ front) b h = ap (kept c) (blank_last front b h)

shown_last_more : (c : ℕ) (front : List ℕ) (b : ℕ) → before_blanks (front ++ b ∷ []) ≡ front ++ b ∷ [] → kept c (before_blanks (front ++ b ∷ [])) ≡ c ∷ (front ++ b ∷ [])
shown_last_more c [] b h = rw h refl
shown_last_more c (d ∷ front) b h = rw h refl

pub shown_last : (front : List ℕ) (b : ℕ) → is_blank b ≡ false → before_blanks (front ++ b ∷ []) ≡ front ++ b ∷ []
shown_last [] b h = rw h refl
shown_last (c ∷ front) b h = shown_last_more c front b (shown_last front b h)

pub last_is : (front : List ℕ) (b last : ℕ) → before_last last (front ++ b ∷ []) ≡ (if nat_eq b last then Some front else None)
last_is [] b last = refl
last_is (c ∷ []) b last = by (nat_eq b last)
  where
    by : (t : Bool) → option_map (λ rest. c ∷ rest) (if t then Some [] else None) ≡ (if t then Some (c ∷ []) else None)
    by true = refl
    by false = refl
last_is (c ∷ d ∷ front) b last = ap (option_map (λ rest. c ∷ rest)) (last_is (d ∷ front) b last) ∙ by (nat_eq b last)
  where
    by : (t : Bool) → option_map (λ rest. c ∷ rest) (if t then Some (d ∷ front) else None) ≡ (if t then Some (c ∷ d ∷ front) else None)
    by true = refl
    by false = refl

pub return_last : (front : List ℕ) → without_return (front ++ 13 ∷ []) ≡ front
return_last [] = refl
return_last (b ∷ []) = refl
return_last (b ∷ c ∷ front) = ap (λ x. b ∷ x) (return_last (c ∷ front))

pub other_last : (front : List ℕ) (b : ℕ) → b ≢ 13 → without_return (front ++ b ∷ []) ≡ front ++ b ∷ []
other_last [] b h = elim (cases_Bool (nat_eq b 13)) [ inl same ↦ absurd (h (eqb-true b 13 same)) | inr different ↦ rw different refl ]
other_last (c ∷ []) b h = ap (λ x. c ∷ x) (other_last [] b h)
other_last (c ∷ d ∷ front) b h = ap (λ x. c ∷ x) (other_last (d ∷ front) b h)

pub both_are : (first last b : ℕ) (inner : List ℕ) (c : ℕ) → b ≡ first → c ≡ last → enclosed first last (b ∷ inner ++ c ∷ []) ≡ Some inner
both_are first last b inner c h k = rw (eq-eqb b first h, last_is inner c last, eq-eqb c last k) refl

pub not_both : (first last b : ℕ) (inner : List ℕ) (c : ℕ) → (b ≢ first) ⊎ (c ≢ last) → enclosed first last (b ∷ inner ++ c ∷ []) ≡ None
not_both first last b inner c h = elim (cases_Bool (nat_eq b first)) [
  | inl same ↦ elim (cases_Bool (nat_eq c last)) [
    | inl also ↦ absurd (elim h [ inl one ↦ one (eqb-true b first same) | inr other ↦ other (eqb-true c last also) ])
    | inr different ↦ rw (same, last_is inner c last, different) refl
  ]
  | inr different ↦ rw different refl
]
