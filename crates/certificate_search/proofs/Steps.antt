-- What is left of lists that are gone through from the front.
use Rattle.std.proofs.Common.{◌≡◌, ℕ, suc, ◌+◌, ◌<◌, ◌≤◌, List, [], ◌∷◌, ◌++◌, length, drop, get_or, refl, ap, sym, ◌∙◌, subst}
use Rattle.std.specs.Prelude.{Bool, true, false, ◌&&◌, ◌||◌, map, All, Option, Some, None}
use Rattle.std.specs.List.{list_any}
use Rattle.std.proofs.lemmas.List.{drop_all}
use Rattle.std.proofs.lemmas.List.Elements.{All-get_or}
use Rattle.std.specs.Cmp.Lexicographic.{pointwise}
use Rattle.constraint_recheck.specs.Options.{or_else, first_of, fold_over}
use Rattle.certificate_search.proofs.RenamedSteps.{dropped, and_false}

-- ---- one list

pub all_at : {X : Type 0} (P : X → Type 0) (xs : List X) (i : ℕ) (x : X) → i < length xs → x ≡ get_or xs i x → All P xs → P x
all_at P xs i x lt at h = subst P (sym at) (All-get_or P xs i x lt h)

pub first_some : {X A Y : Type 0} (f : A → Option Y) (g : X → A) (xs : List X) (i : ℕ) (x : X) (y : Y) → i < length xs → x ≡ get_or xs i x → f (g x) ≡ Some y → first_of f (map g (drop i xs)) ≡ Some y
first_some f g xs i x y lt at e = ap (λ zs. first_of f (map g zs)) (dropped xs i x lt at) ∙ ap (λ o. or_else o (first_of f (map g (drop (i + 1) xs)))) e

pub first_none : {X A Y : Type 0} (f : A → Option Y) (g : X → A) (xs : List X) (i : ℕ) (x : X) → i < length xs → x ≡ get_or xs i x → f (g x) ≡ None → first_of f (map g (drop i xs)) ≡ first_of f (map g (drop (i + 1) xs))
first_none f g xs i x lt at e = ap (λ zs. first_of f (map g zs)) (dropped xs i x lt at) ∙ ap (λ o. or_else o (first_of f (map g (drop (i + 1) xs)))) e

pub first_end : {X A Y : Type 0} (f : A → Option Y) (g : X → A) (xs : List X) (i : ℕ) → length xs ≤ i → first_of f (map g (drop i xs)) ≡ None
first_end f g xs i le = ap (λ zs. first_of f (map g zs)) (drop_all i xs le)

pub any_true : {X A : Type 0} (p : A → Bool) (g : X → A) (xs : List X) (i : ℕ) (x : X) → i < length xs → x ≡ get_or xs i x → p (g x) ≡ true → list_any p (map g (drop i xs)) ≡ true
any_true p g xs i x lt at e = ap (λ zs. list_any p (map g zs)) (dropped xs i x lt at) ∙ ap (λ b. b || list_any p (map g (drop (i + 1) xs))) e

pub any_false : {X A : Type 0} (p : A → Bool) (g : X → A) (xs : List X) (i : ℕ) (x : X) → i < length xs → x ≡ get_or xs i x → p (g x) ≡ false → list_any p (map g (drop i xs)) ≡ list_any p (map g (drop (i + 1) xs))
any_false p g xs i x lt at e = ap (λ zs. list_any p (map g zs)) (dropped xs i x lt at) ∙ ap (λ b. b || list_any p (map g (drop (i + 1) xs))) e

pub fold_one : {X A Y : Type 0} (h : Y → A → Y) (y : Y) (g : X → A) (xs : List X) (i : ℕ) (x : X) → i < length xs → x ≡ get_or xs i x → fold_over h y (map g (drop i xs)) ≡ fold_over h (h y (g x)) (map g (drop (i + 1) xs))
fold_one h y g xs i x lt at = ap (λ zs. fold_over h y (map g zs)) (dropped xs i x lt at)

pub fold_end : {X A Y : Type 0} (h : Y → A → Y) (y : Y) (g : X → A) (xs : List X) (i : ℕ) → length xs ≤ i → fold_over h y (map g (drop i xs)) ≡ y
fold_end h y g xs i le = ap (λ zs. fold_over h y (map g zs)) (drop_all i xs le)

pub fold_joined : {A Y : Type 0} (h : Y → A → Y) (y : Y) (xs zs : List A) → fold_over h y (xs ++ zs) ≡ fold_over h (fold_over h y xs) zs
fold_joined h y [] zs = refl
fold_joined h y (x ∷ xs) zs = fold_joined h (h y x) xs zs
