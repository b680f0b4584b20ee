-- How rises of a count are put together.
use Rattle.std.proofs.Common.{◌≡◌, ◌+◌, ◌<◌, ℕ, zero, suc, List, [], ◌∷◌, ◌++◌, Some, length, get_or, map, ⊎_elim, sym, ap, ◌∙◌, refl, subst, arith, length-append}
use Rattle.std.specs.Prelude.{Contains, slice_get}
use Rattle.std.specs.declared.cmp.Ordering.{Ordering}
use Rattle.std.specs.declared.cmp.Ordering.TheVariants.{Less}
use Rattle.std.specs.Cmp.{IsTotalOrder}
use Rattle.std.specs.List.Sorted.{IsStrictlySortedBy}
use Rattle.std.specs.List.{AllByRecursion}
use Rattle.std.proofs.lemmas.Map.Keys.{sorted_head, sorted_tail}
use Rattle.std.proofs.lemmas.Cmp.{tied_itself}
use Rattle.std.proofs.lemmas.List.{length-map}
use Rattle.std.proofs.lemmas.List.Elements.{Contains-append_cases}
use Rattle.sd_value.specs.Members.{Contains-nil, Contains-cons_cases, Contains-here, Contains-there, Contains-map}
use Rattle.weight_spec.specs.Distinct.{IsDistinct}
use Rattle.weight_spec.specs.CountsAtMost.{CountsAtMost, IsAt, IsBefore}

pub distinct_append : {X : Type 0} (xs ys : List X) → IsDistinct xs → IsDistinct ys → ((x : X) → Contains xs x → Contains ys x → ⊥) → IsDistinct (xs ++ ys)
distinct_append [] ys d e apart = e
distinct_append (x ∷ xs) ys d e apart = (
  λ h. ⊎_elim d.0 (λ k. apart x (Contains-here x xs) k) (Contains-append_cases xs ys x h),
  distinct_append xs ys d.1 e (λ y h k. apart y (Contains-there x xs y h) k),
)

pub distinct_map : {X Y : Type 0} (f : X → Y) (xs : List X) → IsDistinct xs → ((a b : X) → Contains xs a → Contains xs b → f a ≡ f b → a ≡ b) → IsDistinct (map f xs)
distinct_map f [] d apart = tt
distinct_map f (x ∷ xs) d apart = (
  λ h. let r = Contains-map f xs (f x) h in d.0 (subst (Contains xs) (apart r.0 x (Contains-there x xs r.0 r.2) (Contains-here x xs) r.1) r.2),
  distinct_map f xs d.1 (λ a b h k e. apart a b (Contains-there x xs a h) (Contains-there x xs b k) e),
)

not_above : {X : Type 0} (R : X → X → Ordering) (total : IsTotalOrder R) (x : X) (ys : List X) → AllByRecursion (λ y. R x y ≡ Less) ys → Contains ys x → ⊥
not_above R total x [] a h = Contains-nil x h
not_above R total x (y ∷ ys) a h =
    ⊎_elim (λ (e : y ≡ x). let tie = tied_itself total x in let less : R x x ≡ Less = subst (λ z. R x z ≡ Less) e a.0 in let f : ⊥ = cc in f) (λ k. not_above R total x ys a.1 k) (Contains-cons_cases y ys x h)

-- what ascends has no repeats
pub distinct_ascending : {X : Type 0} (R : X → X → Ordering) → IsTotalOrder R → (xs : List X) → IsStrictlySortedBy R xs → IsDistinct xs
distinct_ascending R total [] s = tt
distinct_ascending R total (x ∷ xs) s = (not_above R total x xs (sorted_head R x xs s), distinct_ascending R total xs (sorted_tail R x xs s))

-- ---- rises

pub hands_none : {X : Type 0} (P : X → Type 0) (n : ℕ) → CountsAtMost P n n
hands_none P n = record { things = []; distinct = tt; each = λ x h. absurd (Contains-nil x h); high = omega arith }

pub hands_as : {X : Type 0} (P R : X → Type 0) (a b : ℕ) → ((x : X) → P x → R x) → CountsAtMost P a b → CountsAtMost R a b
hands_as P R a b to h = record { things = h.things; distinct = h.distinct; each = λ x k. to x (h.each x k); high = h.high }

pub hands_map : {X Y : Type 0} (f : X → Y) (P : X → Type 0) (R : Y → Type 0) (a b : ℕ) → ((x : X) → P x → R (f x)) → ((x y : X) → P x → P y → f x ≡ f y → x ≡ y) → CountsAtMost P a b → CountsAtMost R a b
hands_map f P R a b to apart h = record {
  things = map f h.things;
  distinct = distinct_map f h.things h.distinct (λ x y i j e. apart x y (h.each x i) (h.each y j) e);
  each = λ y k. let r = Contains-map f h.things y k in subst R r.1 (to r.0 (h.each r.0 r.2));
  high = let g = h.high in omega (arith, length-map h.things f, g);
}

pub hands_join : {X : Type 0} (P Q R : X → Type 0) (a b c : ℕ) → ((x : X) → P x → Q x → ⊥) → ((x : X) → P x → R x) → ((x : X) → Q x → R x) → CountsAtMost P a b → CountsAtMost Q b c → CountsAtMost R a c
hands_join P Q R a b c apart left right h k = record {
  things = h.things ++ k.things;
  distinct = distinct_append h.things k.things h.distinct k.distinct (λ x i j. apart x (h.each x i) (k.each x j));
  each = λ x i. ⊎_elim (λ j. left x (h.each x j)) (λ j. right x (k.each x j)) (Contains-append_cases h.things k.things x i);
  high = let m = h.high in let n = k.high in omega (arith, length-append h.things k.things, m, n);
}

-- ---- items by their numbers

slice_at : {A : Type 0} (xs : List A) (i : ℕ) (x : A) → i < length xs → x ≡ get_or xs i x → slice_get xs i ≡ Some x
slice_at [] i x l is = absurd (omega (arith, l))
slice_at (y ∷ ys) zero x l is = ap Some (sym is)
slice_at (y ∷ ys) (suc i) x l is = slice_at ys i x (omega (arith, l)) is

pub hands_next : {A X : Type 0} (xs : List A) (P : A → X → Type 0) (i : ℕ) (x : A) (a b c : ℕ) → i < length xs → x ≡ get_or xs i x → CountsAtMost (IsBefore xs P i) a b → CountsAtMost (P x) b c → CountsAtMost (IsBefore xs P (i + 1)) a c
hands_next {A} {X} xs P i x a b c l is h k =
    hands_join (IsBefore xs P i) (λ (z : ℕ × X). (z.0 ≡ i) × IsAt xs P z) (IsBefore xs P (i + 1)) a b c
    (λ z p q. let lt = p.0 in let e = q.0 in let f : ⊥ = absurd (omega (arith, lt, e)) in f)
    (λ z p. ((let lt = p.0 in omega (arith, lt)), p.1))
    (λ z q. ((let e = q.0 in omega (arith, e)), q.1))
    h
    (hands_map (λ (y : X). (i, y)) (P x) (λ (z : ℕ × X). (z.0 ≡ i) × IsAt xs P z) b c (λ y p. (refl, (x, slice_at xs i x l is, p))) (λ y z p q e. ap (λ (w : ℕ × X). w.1) e) k)

pub hands_begin : {A X : Type 0} (xs : List A) (P : A → X → Type 0) (n : ℕ) → CountsAtMost (IsBefore xs P 0) n n
hands_begin xs P n = hands_none (IsBefore xs P 0) n

pub hands_all : {A X : Type 0} (xs : List A) (P : A → X → Type 0) (i : ℕ) (a b : ℕ) → CountsAtMost (IsBefore xs P i) a b → CountsAtMost (IsAt xs P) a b
hands_all xs P i a b h = hands_as (IsBefore xs P i) (IsAt xs P) a b (λ z p. p.1) h

some_same : {A : Type 0} (x y : A) → Some x ≡ Some y → x ≡ y
some_same x y e = cc

pub slice_map : {A B : Type 0} (f : A → B) (xs : List A) (i : ℕ) (x : A) → slice_get xs i ≡ Some x → slice_get (map f xs) i ≡ Some (f x)
slice_map f [] i x e = cc
slice_map {A} {B} f (y ∷ ys) zero x e = ap (λ (z : B). Some z) (ap f (some_same y x e))
slice_map f (y ∷ ys) (suc i) x e = slice_map f ys i x e

-- two rises whose things have different names
pub hands_two : {X Y Z : Type 0} (f : X → Z) (g : Y → Z) (P : X → Type 0) (Q : Y → Type 0) (R : Z → Type 0) (a b c : ℕ) → ((x : X) → P x → R (f x)) → ((y : Y) → Q y → R (g y))
    → ((x y : X) → f x ≡ f y → x ≡ y) → ((x y : Y) → g x ≡ g y → x ≡ y) → ((x : X) (y : Y) → f x ≡ g y → ⊥) → CountsAtMost P a b → CountsAtMost Q b c → CountsAtMost R a c
hands_two {X} {Y} {Z} f g P Q R a b c left right one other apart h k =
    hands_join (λ (z : Z). (x : X) × P x × (f x ≡ z)) (λ (z : Z). (y : Y) × Q y × (g y ≡ z)) R a b c
    (λ z p q. apart p.0 q.0 (p.2 ∙ sym q.2)) (λ z p. subst R p.2 (left p.0 p.1)) (λ z q. subst R q.2 (right q.0 q.1))
    (hands_map f P (λ (z : Z). (x : X) × P x × (f x ≡ z)) a b (λ x p. (x, p, refl)) (λ x y p q e. one x y e) h)
    (hands_map g Q (λ (z : Z). (y : Y) × Q y × (g y ≡ z)) b c (λ y q. (y, q, refl)) (λ x y p q e. other x y e) k)

pub hands_same : {X : Type 0} (P : X → Type 0) (a b : ℕ) → b ≡ a → CountsAtMost P a b
hands_same P a b e = subst (CountsAtMost P a) (sym e) (hands_none P a)

pub slice_in : {A : Type 0} (xs : List A) (i : ℕ) (x : A) → slice_get xs i ≡ Some x → Contains xs x
slice_in [] i x e = cc
slice_in (y ∷ ys) zero x e = subst (Contains (y ∷ ys)) (some_same y x e) (Contains-here y ys)
slice_in (y ∷ ys) (suc i) x e = Contains-there y ys x (slice_in ys i x e)
