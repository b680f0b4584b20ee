-- What is left of lists that are gone through from the front.
use Rattle.std.proofs.Common.{◌≡◌, ℕ, zero, suc, ◌+◌, ◌<◌, List, [], ◌∷◌, length, drop, get_or, refl, ap, sym, ◌∙◌, arith, add-one}
use Rattle.std.specs.Prelude.{Bool, true, false, ◌&&◌, map, Option, Some, None}
use Rattle.std.specs.List.{list_all}
use Rattle.constraint_recheck.specs.Recheck.{zip_all}
use Rattle.constraint_recheck.specs.Options.{or_else, first_of}

pub and_false : (a b : Bool) → b ≡ false → (a && b) ≡ false
and_false true b e = e
and_false false b e = refl

-- ---- one list

dropped_suc : {X : Type 0} (xs : List X) (i : ℕ) (x : X) → i < length xs → x ≡ get_or xs i x → drop i xs ≡ x ∷ drop (suc i) xs
dropped_suc [] i x lt at = absurd (omega arith)
dropped_suc (w ∷ xs) zero x lt at = ap (λ z. z ∷ xs) (sym at)
dropped_suc (w ∷ xs) (suc i) x lt at = dropped_suc xs i x (omega arith) at

-- what is left begins with the element at the place
pub dropped : {X : Type 0} (xs : List X) (i : ℕ) (x : X) → i < length xs → x ≡ get_or xs i x → drop i xs ≡ x ∷ drop (i + 1) xs
dropped xs i x lt at = rw add-one (dropped_suc xs i x lt at)

pub mapped_at : {X A B : Type 0} (f : A → B) (g : X → A) (xs : List X) (i : ℕ) (x : X) (e : B) → i < length xs → x ≡ get_or xs i x → get_or (map f (map g xs)) i e ≡ f (g x)
mapped_at f g [] i x e lt at = absurd (omega arith)
mapped_at f g (w ∷ xs) zero x e lt at = ap (λ z. f (g z)) (sym at)
mapped_at f g (w ∷ xs) (suc i) x e lt at = mapped_at f g xs i x e (omega arith) at

pub all_false : {X A : Type 0} (p : A → Bool) (g : X → A) (xs : List X) (i : ℕ) (x : X) → i < length xs → x ≡ get_or xs i x → p (g x) ≡ false → list_all p (map g (drop i xs)) ≡ false
all_false p g xs i x lt at e = ap (λ zs. list_all p (map g zs)) (dropped xs i x lt at) ∙ ap (λ b. b && list_all p (map g (drop (i + 1) xs))) e

pub all_true : {X A : Type 0} (p : A → Bool) (g : X → A) (xs : List X) (i : ℕ) (x : X) → i < length xs → x ≡ get_or xs i x → p (g x) ≡ true → list_all p (map g (drop i xs)) ≡ list_all p (map g (drop (i + 1) xs))
all_true p g xs i x lt at e = ap (λ zs. list_all p (map g zs)) (dropped xs i x lt at) ∙ ap (λ b. b && list_all p (map g (drop (i + 1) xs))) e

pub first_some : {X Y : Type 0} (f : X → Option Y) (xs : List X) (i : ℕ) (x : X) (y : Y) → i < length xs → x ≡ get_or xs i x → f x ≡ Some y → first_of f (drop i xs) ≡ Some y
first_some f xs i x y lt at e = ap (λ zs. first_of f zs) (dropped xs i x lt at) ∙ ap (λ o. or_else o (first_of f (drop (i + 1) xs))) e

pub first_none : {X Y : Type 0} (f : X → Option Y) (xs : List X) (i : ℕ) (x : X) → i < length xs → x ≡ get_or xs i x → f x ≡ None → first_of f (drop i xs) ≡ first_of f (drop (i + 1) xs)
first_none f xs i x lt at e = ap (λ zs. first_of f zs) (dropped xs i x lt at) ∙ ap (λ o. or_else o (first_of f (drop (i + 1) xs))) e

-- ---- two lists side by side

pub zip_false : {X Y A B : Type 0} (f : A → B → Bool) (g : X → A) (h : Y → B) (xs : List X) (ys : List Y) (i : ℕ) (x : X) (y : Y)
    → i < length xs → i < length ys → x ≡ get_or xs i x → y ≡ get_or ys i y → f (g x) (h y) ≡ false → zip_all f (map g (drop i xs)) (map h (drop i ys)) ≡ false
zip_false f g h xs ys i x y lt lu at au e =
    ap (λ zs. zip_all f (map g zs) (map h (drop i ys))) (dropped xs i x lt at)
    ∙ ap (λ zs. zip_all f (map g (x ∷ drop (i + 1) xs)) (map h zs)) (dropped ys i y lu au)
    ∙ ap (λ b. b && zip_all f (map g (drop (i + 1) xs)) (map h (drop (i + 1) ys))) e

pub zip_true : {X Y A B : Type 0} (f : A → B → Bool) (g : X → A) (h : Y → B) (xs : List X) (ys : List Y) (i : ℕ) (x : X) (y : Y)
    → i < length xs → i < length ys → x ≡ get_or xs i x → y ≡ get_or ys i y → f (g x) (h y) ≡ true
    → zip_all f (map g (drop i xs)) (map h (drop i ys)) ≡ zip_all f (map g (drop (i + 1) xs)) (map h (drop (i + 1) ys))
zip_true f g h xs ys i x y lt lu at au e =
    ap (λ zs. zip_all f (map g zs) (map h (drop i ys))) (dropped xs i x lt at)
    ∙ ap (λ zs. zip_all f (map g (x ∷ drop (i + 1) xs)) (map h zs)) (dropped ys i y lu au)
    ∙ ap (λ b. b && zip_all f (map g (drop (i + 1) xs)) (map h (drop (i + 1) ys))) e
