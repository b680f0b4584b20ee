-- The first of all things with a property.
use Rattle.std.specs.Prelude.{◌≡◌, ◌<◌, ◌≤◌, ℕ, List, length, take, Contains}
use Rattle.std.specs.declared.cmp.Ordering.{Ordering}
use Rattle.std.proofs.Common.{arith, sym, ap, ◌∙◌, subst}
use Rattle.std.proofs.lemmas.List.{length-take, take_all, get_or-take}
use Rattle.sd_value.specs.Ascending.{ListsExactly}

-- xs is the first n of the things with the property, or all where there are no more
abbrev pub AreFirst : {X : Type 0} → ℕ → (X → X → Ordering) → (X → Type 0) → List X → Type 0
AreFirst {X} n R P xs = (all : List X) × ListsExactly R P all × (xs ≡ take n all)

-- each of them has the property
pub first-sound : {X : Type 0} {R : X → X → Ordering} {P : X → Type 0} (n : ℕ) (xs : List X)
    → AreFirst n R P xs → (x : X) → Contains xs x → P x
first-sound n xs (all, lists, is) x at =
    let (i, within, here) = subst (λ ys. Contains ys x) is at in
    let early : i < n = omega (arith, within, length-take n all) in
    let inside : i < length all = omega (arith, within, length-take n all) in
    lists.sound x (i, inside, sym (get_or-take n all i x early) ∙ here)

-- and where they are fewer than n, they are all
pub first-all : {X : Type 0} {R : X → X → Ordering} {P : X → Type 0} (n : ℕ) (xs : List X)
    → AreFirst n R P xs → length xs < n → ListsExactly R P xs
first-all {X} {R} {P} n xs (all, lists, is) few =
    let fits : length all ≤ n = omega (arith, ap length is, length-take n all) in
    subst (ListsExactly R P) (sym (is ∙ take_all n all fits)) lists
