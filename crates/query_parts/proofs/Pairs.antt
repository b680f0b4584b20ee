-- Two lists that are gone through side by side from the front.
use Rattle.std.proofs.Common.{◌≡◌, ℕ, suc, ◌+◌, ◌<◌, List, ◌∷◌, length, drop, get_or, ap, sym, ◌∙◌, drop-cons, add-one}
use Rattle.std.specs.Prelude.{Bool, true, false, ◌&&◌, map}
use Rattle.std.specs.Cmp.Lexicographic.{pointwise}

dropped : {X : Type 0} (xs : List X) (i : ℕ) (x : X) → i < length xs → x ≡ get_or xs i x → drop i xs ≡ x ∷ drop (i + 1) xs
dropped {X} xs i x lt at = rw add-one (drop-cons xs i x lt ∙ ap (λ (y : X). y ∷ drop (suc i) xs) (sym at))

pub pairs_false : {X Y A B : Type 0} (f : A → B → Bool) (g : X → A) (h : Y → B) (xs : List X) (ys : List Y) (i : ℕ) (x : X) (y : Y)
    → i < length xs → i < length ys → x ≡ get_or xs i x → y ≡ get_or ys i y → f (g x) (h y) ≡ false → pointwise f (map g (drop i xs)) (map h (drop i ys)) ≡ false
pairs_false f g h xs ys i x y lt lu at au e =
    ap (λ zs. pointwise f (map g zs) (map h (drop i ys))) (dropped xs i x lt at)
    ∙ ap (λ zs. pointwise f (map g (x ∷ drop (i + 1) xs)) (map h zs)) (dropped ys i y lu au)
    ∙ ap (λ b. b && pointwise f (map g (drop (i + 1) xs)) (map h (drop (i + 1) ys))) e

pub pairs_true : {X Y A B : Type 0} (f : A → B → Bool) (g : X → A) (h : Y → B) (xs : List X) (ys : List Y) (i : ℕ) (x : X) (y : Y)
    → i < length xs → i < length ys → x ≡ get_or xs i x → y ≡ get_or ys i y → f (g x) (h y) ≡ true
    → pointwise f (map g (drop i xs)) (map h (drop i ys)) ≡ pointwise f (map g (drop (i + 1) xs)) (map h (drop (i + 1) ys))
pairs_true f g h xs ys i x y lt lu at au e =
    ap (λ zs. pointwise f (map g zs) (map h (drop i ys))) (dropped xs i x lt at)
    ∙ ap (λ zs. pointwise f (map g (x ∷ drop (i + 1) xs)) (map h zs)) (dropped ys i y lu au)
    ∙ ap (λ b. b && pointwise f (map g (drop (i + 1) xs)) (map h (drop (i + 1) ys))) e
