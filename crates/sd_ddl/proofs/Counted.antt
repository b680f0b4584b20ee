-- How many items at the front pass a test, one after another.
use Rattle.std.specs.Prelude.{◌≡◌, ℕ, ◌<◌, ◌≤◌, ◌+◌, ◌-◌, Bool, true, false, cond, List, length, take, drop}
use Rattle.std.specs.declared.cmp.Ordering.{Ordering}
use Rattle.std.specs.declared.cmp.Ordering.TheVariants.{Less, Equal, Greater}
use Rattle.std.specs.Ordering.{is_eq, is_ne}
use Rattle.std.specs.List.{prefix_len}
use Rattle.std.proofs.Common.{arith, refl, sym, ap, ◌∙◌, get_or, add-one, ◌∷◌, length-drop}
use Rattle.std.proofs.Math.Seq.{drop-cons, take-length}
use Rattle.std.proofs.lemmas.List.Sums.{prefix_len-le-length}

pub front_more : {X : Type 0} (p : X → Bool) (xs : List X) (i : ℕ) (x : X) (b : Bool) → i < length xs → x ≡ get_or xs i x → p x ≡ b
    → prefix_len p (drop i xs) ≡ cond b (1 + prefix_len p (drop (i + 1) xs)) 0
front_more p xs i x b lt at is =
    ap (prefix_len p) (drop-cons xs i x lt ∙ (λ j. sym at j ∷ drop (sym (add-one i) j) xs)) ∙ ap (λ c. cond c (1 + prefix_len p (drop (i + 1) xs)) 0) is

-- what a comparison finds of items that are alike
tied : (r : Ordering) → is_ne r ≡ false → is_eq r ≡ true
tied Less h = cc
tied Equal h = refl
tied Greater h = cc

pub alike : (q r : Ordering) (b : Bool) → q ≡ r → b ≡ is_ne q → b ≡ false → is_eq r ≡ true
alike q r b is told same = tied r (sym (ap is_ne is) ∙ sym told ∙ same)

-- the count, with one item more passed
pub counted_more : {X : Type 0} (p : X → Bool) (xs : List X) (i : ℕ) (x : X) → prefix_len p xs ≡ i + prefix_len p (drop i xs) → i < length xs → x ≡ get_or xs i x → p x ≡ true
    → prefix_len p xs ≡ i + 1 + prefix_len p (drop (i + 1) xs)
counted_more p xs i x before lt at is = let more : prefix_len p (drop i xs) ≡ 1 + prefix_len p (drop (i + 1) xs) = front_more p xs i x true lt at is in omega arith

pub within : {X : Type 0} (p : X → Bool) (xs : List X) (passed k : ℕ) → passed ≤ length xs → k ≡ prefix_len p (drop passed xs) → passed + k ≤ length xs
within p xs passed k before count = let most = prefix_len-le-length p (drop passed xs) in let len = length-drop passed xs in omega arith

-- a slice from a place on is what follows the place
pub from_place : {X : Type 0} (xs ys : List X) (i : ℕ) → ys ≡ xs → take (length ys - i) (drop i ys) ≡ drop i xs
from_place {X} xs ys i is = ap (λ (zs : List X). take (length zs - i) (drop i zs)) is ∙ ap (λ k. take k (drop i xs)) (sym (length-drop i xs)) ∙ take-length (drop i xs)
