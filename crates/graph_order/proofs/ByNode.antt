-- Members in the order of their nodes have the edges of the members in order.
use Rattle.std.proofs.Common.{◌≡◌, ℕ, zero, suc, ◌+◌, ◌-◌, ◌<◌, ◌≤◌, List, [], ◌∷◌, ◌++◌, length, get_or, map, take, drop, Option, Some, None, refl, sym, ap, ◌∙◌, subst, inl, inr, arith, length-take}
use Rattle.std.specs.Prelude.{Contains, flat_map, slice_get}
use Rattle.std.specs.declared.cmp.Ordering.{Ordering}
use Rattle.std.specs.Cmp.{IsTotalOrder}
use Rattle.std.specs.FinMap.{IsAntisymmetric}
use Rattle.std.specs.List.Sorted.{IsStrictlySortedBy}
use Rattle.std.proofs.lemmas.List.{take_more, map-append, drop-drop}
use Rattle.sd_value.specs.Names.{Name}
use Rattle.sd_value.specs.Ascending.{ListsExactly}
use Rattle.sd_value.specs.AscendingLaws.{same_list}
use Rattle.sd_value.specs.Members.{Contains-nil, Contains-cons_cases, Contains-flat_map, Contains-flat_mapped}
use Rattle.graph_spec.specs.Statement.{Statement}
use Rattle.graph_spec.specs.declared.Edge.{Edge}
use Rattle.sd_graph.specs.Gathered.{insert_all}
use Rattle.sd_graph.proofs.Gathering.{all_inserted-there, all_inserted-cases, all_inserted-ascends, all_inserted-here}
use Rattle.order_spec.specs.Order.{Place, edges_at, edges_along, first}
use Rattle.graph_order.specs.Adding.{stated_edge}
use Rattle.graph_order.specs.Numbers.{numbers_from, name_before, edges_of_member, numbered_cmp}
use Rattle.graph_order.specs.declared.numbers.Numbered.{Numbered}

first_got : (ns : List Name) → first ns ≡ slice_get ns 0
first_got [] = refl
first_got (n ∷ ns) = refl

got_drop : (ns : List Name) (i : ℕ) → slice_get (drop i ns) 0 ≡ slice_get ns i
got_drop [] zero = refl
got_drop [] (suc i) = refl
got_drop (n ∷ ns) zero = refl
got_drop (n ∷ ns) (suc i) = got_drop ns i

-- the name before, as it is looked up
pub before_got : (ns : List Name) (i : ℕ) → (i ≡ 0 → ⊥) → slice_get ns (i - 1) ≡ name_before ns i
before_got ns zero some = absurd (some refl)
before_got ns (suc i) some = let at : suc i - 1 ≡ i = omega arith in ap (slice_get ns) at

-- ---- numbers

pub numbers_push : (i : ℕ) (xs : List Name) (n : Name)
    → numbers_from i (xs ++ n ∷ []) ≡ numbers_from i xs ++ record { node = n; number = i + length xs } ∷ []
numbers_push i [] n = let at : i ≡ i + 0 = omega arith in λ j. record { node = n; number = at j } ∷ []
numbers_push i (x ∷ xs) n =
    let at : i + 1 + length xs ≡ i + length (x ∷ xs) = omega arith in
    ap (λ (ms : List Numbered). record { node = x; number = i } ∷ ms) (numbers_push (i + 1) xs n)
    ∙ (λ j. record { node = x; number = i } ∷ (numbers_from (i + 1) xs ++ record { node = n; number = at j } ∷ []))

pub numbers_more : (ns : List Name) (i : ℕ) (n : Name) → i < length ns → n ≡ get_or ns i n
    → numbers_from 0 (take i ns) ++ record { node = n; number = i } ∷ [] ≡ numbers_from 0 (take (i + 1) ns)
numbers_more ns i n l is =
    let long : 0 + length (take i ns) ≡ i = omega (arith, length-take {A = Name}) in
    sym (ap (numbers_from 0) (take_more ns i n l ∙ ap (λ (z : Name). take i ns ++ z ∷ []) (sym is))
    ∙ numbers_push 0 (take i ns) n
    ∙ (λ j. numbers_from 0 (take i ns) ++ record { node = n; number = long j } ∷ []))

below : (i : ℕ) (ns : List Name) (m : Numbered) → Contains (numbers_from i ns) m → m.number < i + length ns
below i [] m c = absurd (Contains-nil m c)
below i (n ∷ ns) m c =
    elim (Contains-cons_cases (record { node = n; number = i }) (numbers_from (i + 1) ns) m c) [
      | inl is ↦ (let at : i ≡ m.number = ap (λ (x : Numbered). x.number) is in omega arith)
      | inr rest ↦ (let later = below (i + 1) ns m rest in omega (arith, later))
    ]

-- ---- the edges

spread : {X : Type 0} (g : X → List Edge) (xs : List X)
    → flat_map (λ (x : X). map stated_edge (g x)) xs ≡ map stated_edge (flat_map g xs)
spread g [] = refl
spread g (x ∷ xs) = ap (λ z. map stated_edge (g x) ++ z) (spread g xs) ∙ sym (map-append stated_edge (g x) (flat_map g xs))

inserted_same : {X : Type 0} {R : X → X → Ordering} (total : IsTotalOrder R) (exact : IsAntisymmetric R) (keys xs ys : List X)
    → IsStrictlySortedBy R keys → ((x : X) → Contains xs x → Contains ys x) → ((x : X) → Contains ys x → Contains xs x)
    → insert_all R keys xs ≡ insert_all R keys ys
inserted_same {X} {R} total exact keys xs ys up to from =
    same_list total (insert_all R keys xs) (insert_all R keys ys) (all_inserted-ascends total exact keys xs up) (all_inserted-ascends total exact keys ys up)
    (λ z h. elim (all_inserted-cases R keys xs z h) [
      | inl old ↦ all_inserted-there R keys ys z old
      | inr new ↦ all_inserted-here total exact keys ys z (to z new)
    ])
    (λ z h. elim (all_inserted-cases R keys ys z h) [
      | inl old ↦ all_inserted-there R keys xs z old
      | inr new ↦ all_inserted-here total exact keys xs z (from z new)
    ])

module _ (places : List Place) where
  along_numbers : (whole rest : List Name) (i : ℕ) → drop i whole ≡ rest
      → flat_map (edges_of_member places whole) (numbers_from i rest) ≡ edges_along places i (name_before whole i) rest
  along_numbers whole [] i is = refl
  along_numbers whole (n ∷ rs) i is =
      let here : slice_get whole i ≡ Some n = sym (got_drop whole i) ∙ ap (λ (zs : List Name). slice_get zs 0) is in
      let next : drop (i + 1) whole ≡ rs = sym (drop-drop 1 i whole) ∙ ap (drop 1) is in
      let after : slice_get whole (i + 1) ≡ first rs = sym (got_drop whole (i + 1)) ∙ ap (λ (zs : List Name). slice_get zs 0) next ∙ sym (first_got rs) in
      let step : i + 1 ≡ suc i = omega arith in
      let before : name_before whole (i + 1) ≡ Some n = ap (name_before whole) step ∙ here in
      (λ j. flat_map (λ p. edges_at p i (name_before whole i) n (after j)) places ++ along_numbers whole rs (i + 1) next j)
      ∙ ap (λ b. flat_map (λ p. edges_at p i (name_before whole i) n (first rs)) places ++ edges_along places (i + 1) b rs) before

  module _ (ns : List Name) (ms : List Numbered) (all : ListsExactly numbered_cmp (Contains (numbers_from 0 ns)) ms) where
    pub numbers_below : (m : Numbered) → Contains ms m → m.number < length ns
    numbers_below m c = let within = below 0 ns m (all.sound m c) in omega (arith, within)

    abbrev pub member_edges : List Edge
    member_edges = flat_map (edges_of_member places ns) ms

    whole_edges : flat_map (edges_of_member places ns) (numbers_from 0 ns) ≡ edges_along places 0 None ns
    whole_edges = along_numbers ns ns 0 refl

    pub in_order_too : (e : Edge) → Contains member_edges e → Contains (edges_along places 0 None ns) e
    in_order_too e c =
        let at = Contains-flat_map (edges_of_member places ns) ms e c in
        subst (λ (es : List Edge). Contains es e) whole_edges
        (Contains-flat_mapped (edges_of_member places ns) (numbers_from 0 ns) at.0 e (all.sound at.0 at.1) at.2)

    by_node_too : (e : Edge) → Contains (edges_along places 0 None ns) e → Contains member_edges e
    by_node_too e c =
        let at = Contains-flat_map (edges_of_member places ns) (numbers_from 0 ns) e (subst (λ (es : List Edge). Contains es e) (sym whole_edges) c) in
        Contains-flat_mapped (edges_of_member places ns) ms at.0 e (all.complete at.0 at.1) at.2

    pub stated_members : flat_map (λ (m : Numbered). map stated_edge (edges_of_member places ns m)) ms ≡ map stated_edge member_edges
    stated_members = spread (edges_of_member places ns) ms

    pub inserted_members : {R : Edge → Edge → Ordering} → IsTotalOrder R → IsAntisymmetric R → (keys : List Edge) → IsStrictlySortedBy R keys
        → insert_all R keys member_edges ≡ insert_all R keys (edges_along places 0 None ns)
    inserted_members total exact keys up =
        inserted_same total exact keys member_edges (edges_along places 0 None ns) up in_order_too by_node_too
