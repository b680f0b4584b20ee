-- Laws of lists that are compared place by place.
use Rattle.std.proofs.Common.{◌≡◌, ℕ, zero, suc, ◌+◌, ◌<◌, List, [], ◌∷◌, length, map, arith, refl, subst}
use Rattle.std.specs.Prelude.{Some, slice_get}
use Rattle.query_spec.specs.declared.Variable.{Variable}

-- what is the same at each place is the same
pub same_items : {X : Type 0} (xs ys : List X) → length xs ≡ length ys → ((k : ℕ) (a b : X) → k < length xs → slice_get xs k ≡ Some a → slice_get ys k ≡ Some b → a ≡ b) → xs ≡ ys
same_items [] [] l h = refl
same_items [] (y ∷ ys) l h = absurd (omega (arith, l))
same_items (x ∷ xs) [] l h = absurd (omega (arith, l))
same_items (x ∷ xs) (y ∷ ys) l h =
    let p : x ≡ y = h zero x y (omega arith) refl refl in
    let q : xs ≡ ys = same_items xs ys (omega (arith, l)) (λ k a b w s t. h (suc k) a b (omega (arith, w)) s t) in
    λ i. p i ∷ q i

-- so is the image
pub same_images : {X Y : Type 0} (f : X → Y) (xs ys : List X) → length xs ≡ length ys → ((k : ℕ) (a b : X) → k < length xs → slice_get xs k ≡ Some a → slice_get ys k ≡ Some b → f a ≡ f b) → map f xs ≡ map f ys
same_images f [] [] l h = refl
same_images f [] (y ∷ ys) l h = absurd (omega (arith, l))
same_images f (x ∷ xs) [] l h = absurd (omega (arith, l))
same_images f (x ∷ xs) (y ∷ ys) l h =
    let p : f x ≡ f y = h zero x y (omega arith) refl refl in
    let q : map f xs ≡ map f ys = same_images f xs ys (omega (arith, l)) (λ k a b w s t. h (suc k) a b (omega (arith, w)) s t) in
    λ i. p i ∷ q i

-- the same at one place more
pub same_more : {X Y : Type 0} (f : X → Y) (xs ys : List X) (i : ℕ) (p q : X) → slice_get xs i ≡ Some p → slice_get ys i ≡ Some q → f p ≡ f q
    → ((k : ℕ) (a b : X) → k < i → slice_get xs k ≡ Some a → slice_get ys k ≡ Some b → f a ≡ f b) → (k : ℕ) (a b : X) → k < i + 1 → slice_get xs k ≡ Some a → slice_get ys k ≡ Some b → f a ≡ f b
same_more f [] ys i p q h g e before k a b w s t = cc
same_more f (x ∷ xs) [] i p q h g e before k a b w s t = cc
same_more f (x ∷ xs) (y ∷ ys) zero p q h g e before zero a b w s t =
    let u : p ≡ a = cc in
    let v : q ≡ b = cc in
    subst (λ z. f a ≡ f z) v (subst (λ z. f z ≡ f q) u e)
same_more f (x ∷ xs) (y ∷ ys) zero p q h g e before (suc k) a b w s t = absurd (omega (arith, w))
same_more f (x ∷ xs) (y ∷ ys) (suc i) p q h g e before zero a b w s t = before zero a b (omega arith) s t
same_more f (x ∷ xs) (y ∷ ys) (suc i) p q h g e before (suc k) a b w s t = same_more f xs ys i p q h g e (λ j c d l m n. before (suc j) c d (omega (arith, l)) m n) k a b (omega (arith, w)) s t

pub same_variable : (v w : Variable) → v.name ≡ w.name → v.arc ≡ w.arc → v ≡ w
same_variable v w names flags = λ i. record { name = names i; arc = flags i }
