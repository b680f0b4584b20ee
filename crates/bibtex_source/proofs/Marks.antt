-- What stands before the last `@`, byte by byte from the end.
use Rattle.std.proofs.Common.{◌≡◌, ℕ, Bool, true, false, List, [], ◌∷◌, ◌++◌, if◌then◌else◌, refl, ap, ◌∙◌, inl, inr}
use Rattle.std.specs.Prelude.{◌||◌, nat_eq}
use Rattle.std.specs.List.{list_any}
use Rattle.std.proofs.lemmas.Bool.{cases_Bool, eqb-true, eq-eqb}
use Rattle.bibtex_source.specs.Source.{is_mark, before_mark}

any_last : (xs : List ℕ) (b : ℕ) → list_any (is_mark) (xs ++ b ∷ []) ≡ (list_any (is_mark) xs || is_mark b)
any_last [] b = by (is_mark b)
  where
    by : (p : Bool) → (p || false) ≡ p
    by true = refl
    by false = refl
any_last (x ∷ xs) b = ap (λ p. is_mark x || p) (any_last xs b) ∙ by (is_mark x)
  where
    by : (p : Bool) → (p || (list_any (is_mark) xs || is_mark b)) ≡ ((p || list_any (is_mark) xs) || is_mark b)
    by true = refl
    by false = refl

mark_last : (xs : List ℕ) (b : ℕ) → is_mark b ≡ true → before_mark (xs ++ b ∷ []) ≡ xs
mark_last [] b is = refl
mark_last (x ∷ xs) b is =
    ap (λ p. if p then x ∷ before_mark (xs ++ b ∷ []) else []) (any_last xs b ∙ ap (λ p. list_any (is_mark) xs || p) is ∙ by (list_any (is_mark) xs)) ∙ ap (λ ys. x ∷ ys) (mark_last xs b is)
  where
    by : (p : Bool) → (p || true) ≡ true
    by true = refl
    by false = refl

other_last : (xs : List ℕ) (b : ℕ) → is_mark b ≡ false → before_mark (xs ++ b ∷ []) ≡ before_mark xs
other_last [] b is = refl
other_last (x ∷ xs) b is =
    ap (λ p. if p then x ∷ before_mark (xs ++ b ∷ []) else []) (any_last xs b ∙ ap (λ p. list_any (is_mark) xs || p) is ∙ by (list_any (is_mark) xs)) ∙ ap (λ ys. if list_any (is_mark) xs then x ∷ ys else []) (other_last xs b is)
  where
    by : (p : Bool) → (p || false) ≡ p
    by true = refl
    by false = refl

pub at_mark : (xs : List ℕ) (b : ℕ) → b ≡ 64 → before_mark (xs ++ b ∷ []) ≡ xs
at_mark xs b e = mark_last xs b (eq-eqb b 64 e)

pub at_other : (xs : List ℕ) (b : ℕ) → (b ≡ 64 → ⊥) → before_mark (xs ++ b ∷ []) ≡ before_mark xs
at_other xs b h = elim (cases_Bool (nat_eq b 64)) [ inl same ↦ absurd (h (eqb-true b 64 same)) | inr different ↦ other_last xs b different ]
