-- Numbers that are cut at the budget of a trial.
use Rattle.std.proofs.Common.{arith, ◌≡◌, ◌↔◌, ℕ, ◌+◌, ◌*◌, ◌<◌, ◌≤◌, List, [], ◌∷◌, ◌++◌, refl, sym, ap, ◌∙◌, subst, length, get_or, take, mul_assoc, leb}
use Rattle.std.specs.Prelude.{min, map, sum_by, Bool, IsTrue, ◌||◌}
use Rattle.std.specs.List.{list_any}
use Rattle.std.proofs.lemmas.List.{take_more, take_all, map-append}
use Rattle.std.proofs.lemmas.List.Sums.{sum_by-cons, sum_by_more}
use Rattle.std.proofs.lemmas.Nat.{mul-le}
use Rattle.std.proofs.lemmas.Bool.{le-leb, leb-true}
use Rattle.counterexample_spec.specs.Trial.{product, trial_budget}
use Rattle.trial_size.specs.Cut.{IsCut}

-- more ways are no fewer
larger : (n w : ℕ) → 0 < w → n ≤ n * w
larger n w some = omega (arith, mul-le n 1 n w (omega arith) some)

past : (n rows ways : ℕ) → 0 < ways → IsCut n rows → trial_budget < n * ways → trial_budget < rows * ways
past n rows ways some cut lt = grind (arith, larger rows ways some, cut, lt)

-- the product of a number that is cut
pub times_cut : (rows ways most new n : ℕ) → trial_budget < most → new ≡ min (rows * ways) most → 0 < ways → IsCut n rows → IsCut (n * ways) new
times_cut rows ways most new n room is some cut = (
  λ le.
      let times : rows * ways ≡ n * ways = ap (λ r. r * ways) (cut.0 (omega (arith, larger n ways some, le))) in
      omega (arith, is, times, le, room),
  λ lt. omega (arith, is, past n rows ways some cut lt, room),
)

-- the sum of two that are
pub sum_cut : (m n a b most new : ℕ) → trial_budget < most → new ≡ min (a + b) most → IsCut m a → IsCut n b → IsCut (n + m) new
sum_cut m n a b most new room is cut cuts = (
  λ le. omega (arith, is, cut.0 (omega (arith, le)), cuts.0 (omega (arith, le)), le, room),
  λ lt. grind (arith, is, room, cut, cuts, lt),
)

push : (ns : List ℕ) (n : ℕ) → product (ns ++ n ∷ []) ≡ product ns * n
push [] n = omega arith
push (m ∷ ns) n = ap (λ p. m * p) (push ns n) ∙ sym (mul_assoc m (product ns) n)

module _ {X : Type 0} (f : X → ℕ) (xs : List X) where
  product_more : (i : ℕ) (x : X) → i < length xs → x ≡ get_or xs i x → product (map f (take (i + 1) xs)) ≡ product (map f (take i xs)) * f x
  product_more i x lt is = ap (λ (l : List X). product (map f l)) (take_more xs i x lt ∙ ap (λ z. take i xs ++ z ∷ []) (sym is)) ∙ ap product (map-append f (take i xs) (x ∷ [])) ∙ push (map f (take i xs)) (f x)

  -- one more factor of a product that is cut
  pub one_more : (n i : ℕ) (x : X) (rows : ℕ) → i < length xs → x ≡ get_or xs i x → IsCut (n * product (map f (take i xs)) * f x) rows → IsCut (n * product (map f (take (i + 1) xs))) rows
  one_more n i x rows lt is cut = subst (λ p. IsCut p rows) (mul_assoc n (product (map f (take i xs))) (f x) ∙ ap (λ p. n * p) (sym (product_more i x lt is))) cut

  pub all_there : (n i rows : ℕ) → length xs ≤ i → IsCut (n * product (map f (take i xs))) rows → IsCut (n * product (map f xs)) rows
  all_there n i rows le cut = subst (λ (l : List X). IsCut (n * product (map f l)) rows) (take_all i xs le) cut

  pub one_more_term : (i : ℕ) (x : X) (all : ℕ) → i < length xs → x ≡ get_or xs i x → IsCut (sum_by f (take i xs) + f x) all → IsCut (sum_by f (take (i + 1) xs)) all
  one_more_term i x all lt is cut = subst (λ p. IsCut p all) (ap (λ z. sum_by f (take i xs) + f z) is ∙ sym (sum_by_more f xs i x lt)) cut

  pub all_terms : (i all : ℕ) → length xs ≤ i → IsCut (sum_by f (take i xs)) all → IsCut (sum_by f xs) all
  all_terms i all le cut = subst (λ (l : List X). IsCut (sum_by f l) all) (take_all i xs le) cut

-- the number is within the budget exactly if what it is cut to is
pub decided : (n cut : ℕ) → IsCut n cut → IsTrue (leb cut trial_budget) ↔ (n ≤ trial_budget)
decided n cut h = (λ is. within (leb-true cut trial_budget is), λ le. le-leb cut trial_budget (omega (arith, h.0 le, le)))
  where
    within : cut ≤ trial_budget → n ≤ trial_budget
    within le = grind (arith, h, le)

pub sum_by-map : {X Y : Type 0} (f : Y → ℕ) (g : X → Y) (xs : List X) → sum_by f (map g xs) ≡ sum_by (λ x. f (g x)) xs
sum_by-map f g [] = refl
sum_by-map f g (x ∷ xs) = sum_by-cons f (g x) (map g xs) ∙ ap (λ n. f (g x) + n) (sum_by-map f g xs) ∙ sym (sum_by-cons (λ y. f (g y)) x xs)

-- a list that is looked through
pub any_mapped : {X Y : Type 0} (f : Y → Bool) (g : X → Y) (xs : List X) → list_any f (map g xs) ≡ list_any (λ x. f (g x)) xs
any_mapped f g [] = refl
any_mapped f g (x ∷ xs) = ap (λ b. f (g x) || b) (any_mapped f g xs)
