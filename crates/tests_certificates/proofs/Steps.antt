-- What is left of lists that are gone through from the front.
use Rattle.std.proofs.Common.{◌≡◌, ℕ, suc, ◌+◌, ◌<◌, List, [], ◌∷◌, length, drop, get_or, refl, ap, sym, ◌∙◌, subst, drop-cons, add-one}
use Rattle.std.specs.Prelude.{Bool, true, false, ◌&&◌, map, All}
use Rattle.std.specs.List.{list_all}
use Rattle.std.proofs.lemmas.List.Elements.{All-get_or}
use Rattle.std.specs.Cmp.Lexicographic.{pointwise}

pub dropped : {X : Type 0} (xs : List X) (i : ℕ) (x : X) → i < length xs → x ≡ get_or xs i x → drop i xs ≡ x ∷ drop (i + 1) xs
dropped {X} xs i x lt at = rw add-one (drop-cons xs i x lt ∙ ap (λ (y : X). y ∷ drop (suc i) xs) (sym at))

pub all_at : {X : Type 0} (P : X → Type 0) (xs : List X) (i : ℕ) (x : X) → i < length xs → x ≡ get_or xs i x → All P xs → P x
all_at P xs i x lt at h = subst P (sym at) (All-get_or P xs i x lt h)

-- ---- one list

pub all_false : {X A : Type 0} (p : A → Bool) (g : X → A) (xs : List X) (i : ℕ) (x : X) → i < length xs → x ≡ get_or xs i x → p (g x) ≡ false → list_all p (map g (drop i xs)) ≡ false
all_false p g xs i x lt at e = ap (λ zs. list_all p (map g zs)) (dropped xs i x lt at) ∙ ap (λ b. b && list_all p (map g (drop (i + 1) xs))) e

pub all_true : {X A : Type 0} (p : A → Bool) (g : X → A) (xs : List X) (i : ℕ) (x : X) → i < length xs → x ≡ get_or xs i x → p (g x) ≡ true → list_all p (map g (drop i xs)) ≡ list_all p (map g (drop (i + 1) xs))
all_true p g xs i x lt at e = ap (λ zs. list_all p (map g zs)) (dropped xs i x lt at) ∙ ap (λ b. b && list_all p (map g (drop (i + 1) xs))) e
