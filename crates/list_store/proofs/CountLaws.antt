-- How many things a query picks, where what it gives is all different but not in its order.
use Rattle.std.specs.Prelude.{◌≡◌, ◌⊎◌, suc, Bool, true, false, List, [], ◌∷◌, cond, map, length, Contains, All}
use Rattle.std.specs.declared.cmp.Ordering.{Ordering}
use Rattle.std.specs.declared.cmp.Ordering.TheVariants.{Less, Equal, Greater}
use Rattle.std.specs.Ordering.{is_lt, is_eq, ordering_reverse}
use Rattle.std.specs.Cmp.{IsTotalOrder}
use Rattle.std.specs.FinMap.{IsAntisymmetric}
use Rattle.std.specs.List.Sorted.{IsStrictlySortedBy}
use Rattle.std.proofs.Common.{refl, sym, ap, ◌∙◌, subst, inl, inr}
use Rattle.std.proofs.lemmas.List.Elements.{All-nil, All-cons, recursion_from_All}
use Rattle.sd_value.specs.Members.{Contains-nil, Contains-here, Contains-there, Contains-cons_cases, Contains-map}
use Rattle.sd_value.specs.Ascending.{ListsExactly}
use Rattle.sd_value.specs.AscendingLaws.{head_below, tail_ascends, lists_nothing}
use Rattle.graph_spec.specs.Steps.{IsCountOf}
use Rattle.list_lookup.specs.Picked.{picked, in_place}
use Rattle.list_lookup.specs.PickedLaws.{in_place-is, filter-sound}

All-from_contained : {X : Type 0} (P : X → Type 0) (xs : List X) → ((x : X) → Contains xs x → P x) → All P xs
All-from_contained P [] h = All-nil P
All-from_contained P (x ∷ xs) h = All-cons P x xs (h x (Contains-here x xs)) (All-from_contained P xs (λ y at. h y (Contains-there x xs y at)))

-- an ascending list with one value more
module _ {Y : Type 0} {S : Y → Y → Ordering} (total : IsTotalOrder S) (exact : IsAntisymmetric S) where
  abbrev with_one : Y → List Y → List Y
  with_one y [] = y ∷ []
  with_one y (z ∷ zs) = cond (is_lt (S y z)) (y ∷ z ∷ zs) (z ∷ with_one y zs)

  with_one-length : (y : Y) (zs : List Y) → length (with_one y zs) ≡ suc (length zs)
  with_one-length y [] = refl
  with_one-length y (z ∷ zs) = by (with_one-length y zs) (is_lt (S y z))
    where
      by : length (with_one y zs) ≡ suc (length zs) → (b : Bool) → length (cond b (y ∷ z ∷ zs) (z ∷ with_one y zs)) ≡ suc (suc (length zs))
      by rest true = refl
      by rest false = ap suc rest

  with_one-cases : (y : Y) (zs : List Y) (w : Y) → Contains (with_one y zs) w → (y ≡ w) ⊎ Contains zs w
  with_one-cases y [] w h = Contains-cons_cases y [] w h
  with_one-cases y (z ∷ zs) w h = by (with_one-cases y zs w) (is_lt (S y z)) h
    where
      by : (Contains (with_one y zs) w → (y ≡ w) ⊎ Contains zs w) → (b : Bool) → Contains (cond b (y ∷ z ∷ zs) (z ∷ with_one y zs)) w → (y ≡ w) ⊎ Contains (z ∷ zs) w
      by rest true h = Contains-cons_cases y (z ∷ zs) w h
      by rest false h = elim (Contains-cons_cases z (with_one y zs) w h) [
        | inl e ↦ inr (subst (Contains (z ∷ zs)) e (Contains-here z zs))
        | inr later ↦ elim (rest later) [
          | inl e ↦ inl e
          | inr old ↦ inr (Contains-there z zs w old)
        ]
      ]

  with_one-has : (y : Y) (zs : List Y) → Contains (with_one y zs) y
  with_one-has y [] = Contains-here y []
  with_one-has y (z ∷ zs) = by (with_one-has y zs) (is_lt (S y z))
    where
      by : Contains (with_one y zs) y → (b : Bool) → Contains (cond b (y ∷ z ∷ zs) (z ∷ with_one y zs)) y
      by rest true = Contains-here y (z ∷ zs)
      by rest false = Contains-there z (with_one y zs) y rest

  with_one-keeps : (y : Y) (zs : List Y) (w : Y) → Contains zs w → Contains (with_one y zs) w
  with_one-keeps y [] w h = absurd (Contains-nil w h)
  with_one-keeps y (z ∷ zs) w h = by (with_one-keeps y zs w) (is_lt (S y z))
    where
      by : (Contains zs w → Contains (with_one y zs) w) → (b : Bool) → Contains (cond b (y ∷ z ∷ zs) (z ∷ with_one y zs)) w
      by rest true = Contains-there y (z ∷ zs) w h
      by rest false = elim (Contains-cons_cases z zs w h) [
        | inl e ↦ subst (Contains (z ∷ with_one y zs)) e (Contains-here z (with_one y zs))
        | inr later ↦ Contains-there z (with_one y zs) w (rest later)
      ]

  below_all : (y : Y) (zs : List Y) → ((w : Y) → Contains zs w → S y w ≡ Less) → IsStrictlySortedBy S zs → IsStrictlySortedBy S (y ∷ zs)
  unfolding IsStrictlySortedBy
  below_all y zs below up = (recursion_from_All (λ w. S y w ≡ Less) zs (All-from_contained (λ w. S y w ≡ Less) zs below), up)

  with_one-ascends : (y : Y) (zs : List Y) → (Contains zs y → ⊥) → IsStrictlySortedBy S zs → IsStrictlySortedBy S (with_one y zs)
  with_one-ascends y [] apart up = below_all y [] (λ w h. absurd (Contains-nil w h)) up
  with_one-ascends y (z ∷ zs) apart up =
      by (with_one-ascends y zs (λ h. apart (Contains-there z zs y h)) (tail_ascends total z zs up)) (S y z) refl
    where
      by : IsStrictlySortedBy S (with_one y zs) → (o : Ordering) → S y z ≡ o → IsStrictlySortedBy S (cond (is_lt o) (y ∷ z ∷ zs) (z ∷ with_one y zs))
      by rest Less e = below_all y (z ∷ zs) (λ w h. elim (Contains-cons_cases z zs w h) [
        | inl same ↦ subst (λ v. S y v ≡ Less) same e
        | inr later ↦ total.trans y z w e (head_below total z zs up w later)
      ]) up
      by rest Equal e = absurd (apart (subst (Contains (z ∷ zs)) (sym (exact y z e)) (Contains-here z zs)))
      by rest Greater e =
          let under : S z y ≡ Less = total.antisymm z y ∙ ap ordering_reverse e in
          below_all z (with_one y zs) (λ w h. elim (with_one-cases y zs w h) [
            | inl same ↦ subst (λ v. S z v ≡ Less) same under
            | inr later ↦ head_below total z zs up w later
          ]) rest

  with_one-lists : (y : Y) (ys zs : List Y) → (Contains ys y → ⊥) → ListsExactly S (Contains ys) zs → ListsExactly S (Contains (y ∷ ys)) (with_one y zs)
  with_one-lists y ys zs apart all = record {
    ascending = with_one-ascends y zs (λ h. apart (all.sound y h)) all.ascending;
    sound = λ w h. elim (with_one-cases y zs w h) [
      | inl e ↦ subst (Contains (y ∷ ys)) e (Contains-here y ys)
      | inr old ↦ Contains-there y ys w (all.sound w old)
    ];
    complete = λ w h. elim (Contains-cons_cases y ys w h) [
      | inl e ↦ subst (Contains (with_one y zs)) e (with_one-has y zs)
      | inr old ↦ with_one-keeps y zs w (all.complete w old)
    ];
  }

  -- what a query gives of items in order is counted where it gives no thing twice
  module _ {X : Type 0} {R : X → X → Ordering} (r_total : IsTotalOrder R) (place : X → Ordering) (gives : X → Y)
      (apart : (x y : X) → place x ≡ Equal → place y ≡ Equal → R x y ≡ Less → gives x ≡ gives y → ⊥) where
    pub counted_apart : (xs : List X) → IsStrictlySortedBy R xs → IsCountOf S (Contains (picked place gives xs)) (length (in_place place xs))
    counted_apart [] up = ([], lists_nothing S (Contains []) (λ y h. Contains-nil y h), refl)
    counted_apart (x ∷ xs) up = by (counted_apart xs (tail_ascends r_total x xs up)) (is_eq (place x)) refl
      where
        by : IsCountOf S (Contains (picked place gives xs)) (length (in_place place xs)) → (b : Bool) → is_eq (place x) ≡ b
            → IsCountOf S (Contains (map gives (cond b (x ∷ in_place place xs) (in_place place xs)))) (length (cond b (x ∷ in_place place xs) (in_place place xs)))
        by rest false is = rest
        by (zs, all, n) true is = (
          with_one (gives x) zs,
          with_one-lists (gives x) (picked place gives xs) zs (λ h.
              let (z, given, at) = Contains-map gives (in_place place xs) (gives x) h in
              let found = filter-sound (λ v. is_eq (place v)) xs z at in
              apart x z (in_place-is (place x) is) (in_place-is (place z) found.1) (head_below r_total x xs up z found.0) (sym given)) all,
          with_one-length (gives x) zs ∙ ap suc n,
        )
