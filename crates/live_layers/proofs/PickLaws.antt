-- What a query picks from items is what is asked for, and so many.
use Rattle.std.specs.Prelude.{◌≡◌, ◌≢◌, ◌⊎◌, ◌+◌, ℕ, zero, suc, List, [], ◌∷◌, length, map, Contains}
use Rattle.std.specs.declared.cmp.Ordering.{Ordering}
use Rattle.std.specs.declared.cmp.Ordering.TheVariants.{Less, Equal}
use Rattle.std.specs.Ordering.{is_eq}
use Rattle.std.specs.List.Sorted.{IsStrictlySortedBy}
use Rattle.std.specs.Cmp.{IsTotalOrder}
use Rattle.std.specs.FinMap.{IsAntisymmetric}
use Rattle.std.proofs.Common.{arith, refl, sym, ap, ◌∙◌, subst, inl, inr}
use Rattle.sd_value.specs.Ascending.{ListsExactly}
use Rattle.sd_value.specs.AscendingLaws.{head_below, tail_ascends, not_below_itself, listed_as}
use Rattle.sd_value.specs.Members.{Contains-nil, Contains-cons_cases, Contains-here, Contains-there}
use Rattle.graph_spec.specs.Steps.{IsCountOf}
use Rattle.sd_graph.specs.Inserted.{length-inserted}
use Rattle.edit_graphs.proofs.After.{inserted_exactly}
use Rattle.std.specs.BTreeMap.{is_at}
use Rattle.std.specs.BTreeSet.{insert_key}
use Rattle.std.specs.List.{list_any}
use Rattle.std.specs.Prelude.{◌≤◌, false, true, not, Bool}
use Rattle.std.proofs.lemmas.List.Filters.{length-filter_both}
use Rattle.std.proofs.lemmas.Map.Views.{Contains-from_any}
use Rattle.list_lookup.specs.Picked.{in_place, picked}
use Rattle.list_lookup.specs.PickedLaws.{picked-ascends, picked-sound, picked-complete, filter-sound, filter-complete, in_place-is}
use Rattle.live_layers.proofs.GroupLaws.{nothing_ascends, tie, true_or_false}

module _ {Y : Type 0} (S : Y → Y → Ordering) (total : IsTotalOrder S) (exact : IsAntisymmetric S) where
  none_at : (y : Y) (ys : List Y) → (Contains ys y → ⊥) → list_any (is_at (S y)) ys ≡ false
  none_at y ys none = elim (true_or_false (list_any (is_at (S y)) ys)) [
    | inl t ↦ absurd (none (Contains-from_any (λ k x t. exact k x (tie (S k x) t)) y ys t))
    | inr f ↦ f
  ]

  -- the images of ascending items, all different, are as many
  pub images : {X : Type 0} (R : X → X → Ordering) → IsTotalOrder R → (f : X → Y) (xs : List X) → IsStrictlySortedBy R xs
      → ((x y : X) → Contains xs x → Contains xs y → f x ≡ f y → x ≡ y)
      → IsCountOf S (λ y. (x : X) × Contains xs x × (f x ≡ y)) (length xs)
  images R ordered f [] up one = (
    [],
    record {
      ascending = nothing_ascends S;
      sound = λ y m. absurd (Contains-nil y m);
      complete = λ y h. absurd (Contains-nil h.0 h.1);
    },
    refl,
  )
  images {X} R ordered f (x ∷ xs) up one =
      let (ys, lists, long) = images R ordered f xs (tail_ascends ordered x xs up)
      (λ z w a b. one z w (Contains-there x xs z a) (Contains-there x xs w b)) in
      let new : Contains ys (f x) → ⊥ = λ m. (let (z, at, same) = lists.sound (f x) m in
      let is = one z x (Contains-there x xs z at) (Contains-here x xs) same in
      not_below_itself ordered x (subst (λ w. R x w ≡ Less) is (head_below ordered x xs up z at))) in
      let more = inserted_exactly S total exact (f x) ys lists.ascending in (
        insert_key S ys (f x),
        listed_as more
            (λ y h. elim h [
              | inl old ↦ (let (z, at, same) = lists.sound y old in (z, Contains-there x xs z at, same))
              | inr e ↦ (x, Contains-here x xs, sym e)
            ])
            (λ y (z, at, same). elim (Contains-cons_cases x xs z at) [
              | inl e ↦ inr (sym same ∙ ap f (sym e))
              | inr later ↦ inl (lists.complete y (z, later, same))
            ]),
        omega (arith, length-inserted S (f x) ys (none_at (f x) ys new), long),
      )

  pub counted_as : {P Q : Y → Type 0} (n : ℕ) → IsCountOf S P n → ((y : Y) → P y → Q y) → ((y : Y) → Q y → P y)
      → IsCountOf S Q n
  counted_as n (ys, lists, long) to from = (ys, listed_as lists to from, long)

-- what a query gives of the items is what has P
pub record Gives {X Y : Type 0} (place : X → Ordering) (gives : X → Y) (P : Y → Type 0) (xs : List X) : Type 0 where
  pub sound : (x : X) → Contains xs x → place x ≡ Equal → P (gives x)
  pub complete : (y : Y) → P y → (x : X) × Contains xs x × (place x ≡ Equal) × (gives x ≡ y)
  pub one : (x y : X) → Contains xs x → Contains xs y → place x ≡ Equal → place y ≡ Equal → gives x ≡ gives y → x ≡ y

module _ {X Y : Type 0} (place : X → Ordering) (gives : X → Y) (P : Y → Type 0) (xs : List X)
    (all : Gives place gives P xs) where
  pub picks : (S : Y → Y → Ordering) (ys : List Y) → ListsExactly S (Contains (picked place gives xs)) ys
      → ListsExactly S P ys
  picks S ys lists = listed_as lists (picked-sound place gives P xs all.sound)
      (picked-complete place gives P xs all.complete)

  pub picks_count : (R : X → X → Ordering) → IsTotalOrder R → IsStrictlySortedBy R xs → (S : Y → Y → Ordering)
      → IsTotalOrder S → IsAntisymmetric S → IsCountOf S P (length (in_place place xs))
  picks_count R ordered up S total exact =
      counted_as S total exact (length (in_place place xs))
      (images S total exact R ordered gives (in_place place xs) ascends
      (λ x y a b. all.one x y (at x a).0 (at y b).0 (at x a).1 (at y b).1))
      (λ y (x, m, is). subst P is (all.sound x (at x m).0 (at x m).1))
      (λ y p. let (x, m, placed, is) = all.complete y p in
      (x, filter-complete (λ v. is_eq (place v)) xs x m (ap is_eq placed), is))
    where
      at : (x : X) → Contains (in_place place xs) x → Contains xs x × (place x ≡ Equal)
      at x m = let h = filter-sound (λ v. is_eq (place v)) xs x m in (h.0, in_place-is (place x) h.1)

      same : (ys : List X) → map (λ (x : X). x) ys ≡ ys
      same [] = refl
      same (y ∷ ys) = ap (λ zs. y ∷ zs) (same ys)

      ascends : IsStrictlySortedBy R (in_place place xs)
      ascends = subst (IsStrictlySortedBy R) (same (in_place place xs))
          (picked-ascends R R place (λ x. x) (record { at = λ x y a b less. less }) xs up)

  pub size_count : (R : X → X → Ordering) → IsTotalOrder R → IsStrictlySortedBy R xs → (S : Y → Y → Ordering)
      → IsTotalOrder S → IsAntisymmetric S → ((x : X) → Contains xs x → place x ≡ Equal) → IsCountOf S P (length xs)
  size_count R ordered up S total exact placed =
      counted_as S total exact (length xs)
      (images S total exact R ordered gives xs up (λ x y a b. all.one x y a b (placed x a) (placed y b)))
      (λ y (x, m, is). subst P is (all.sound x m (placed x m)))
      (λ y p. let (x, m, at, is) = all.complete y p in (x, m, is))

-- no more than there are
pub fits : {X : Type 0} (place : X → Ordering) (xs : List X) → length (in_place place xs) ≤ length xs
fits place xs =
    let both = length-filter_both (λ x. is_eq (place x)) (λ x. not (is_eq (place x))) (λ x. refl) xs in
    omega (arith, both)
