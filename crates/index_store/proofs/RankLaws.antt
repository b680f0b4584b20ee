-- Lists in an order that agrees with another one, and the orders by rank of a graph's edges.
use Rattle.std.specs.Prelude.{◌≡◌, ◌⊎◌, ◌<◌, ℕ, List, [], ◌∷◌, map, length, slice_index, All, Contains}
use Rattle.std.specs.declared.cmp.Ordering.{Ordering}
use Rattle.std.specs.declared.cmp.Ordering.TheVariants.{Less, Equal, Greater}
use Rattle.std.specs.Ordering.{ordering_then, nat_cmp}
use Rattle.std.specs.List.Sorted.{IsStrictlySortedBy}
use Rattle.std.proofs.Common.{arith, refl, sym, ap, ◌∙◌, subst, inl, inr}
use Rattle.std.proofs.lemmas.Bool.Decides.{nat_tests}
use Rattle.std.proofs.lemmas.Cmp.{tied_itself}
use Rattle.std.proofs.lemmas.List.{get_or-map, length-map, get_or_default}
use Rattle.std.proofs.lemmas.List.Elements.{All-from_recursion, recursion_from_All, All-contains, All-cons, All-nil, Contains-get_or}
use Rattle.std.proofs.lemmas.Map.Keys.{Less-from_sorted}
use Rattle.sd_value.specs.Order.{bytes_cmp, value_cmp}
use Rattle.sd_value.specs.OrderLaws.{bytes_cmp-total, value_cmp-total}
use Rattle.sd_value.specs.Members.{Contains-here, Contains-there, Contains-map, Contains-mapped}
use Rattle.sd_value.specs.Ascending.{ListsExactly}
use Rattle.graph_spec.specs.DataGraph.{node}
use Rattle.graph_spec.specs.Orders.{edge_cmp}
use Rattle.graph_spec.specs.declared.Edge.{Edge}
use Rattle.edge_queries.specs.Ordered.{by_end_cmp, by_label_cmp}
use Rattle.index_store.specs.Indexed.{edge_at, edges_at, IsOrder}
use Rattle.index_store.specs.Ranks.{rank_cmp, item_at, AreOrderedAs}

pub All-from_contained : {X : Type 0} (P : X → Type 0) (xs : List X) → ((x : X) → Contains xs x → P x) → All P xs
All-from_contained P [] h = All-nil P
All-from_contained P (x ∷ xs) h = All-cons P x xs (h x (Contains-here x xs)) (All-from_contained P xs (λ y at. h y (Contains-there x xs y at)))

-- what a function makes of an ascending list ascends, where it keeps the order
module _ {X Y : Type 0} (R : X → X → Ordering) (S : Y → Y → Ordering) (f : X → Y) where
  pub map-ascends : (xs : List X) → ((x y : X) → Contains xs x → Contains xs y → R x y ≡ Less → S (f x) (f y) ≡ Less) → IsStrictlySortedBy R xs → IsStrictlySortedBy S (map f xs)
  unfolding IsStrictlySortedBy
  map-ascends [] rises up = tt
  map-ascends (x ∷ xs) rises up = (
    recursion_from_All (λ y. S (f x) y ≡ Less) (map f xs) (All-from_contained (λ y. S (f x) y ≡ Less) (map f xs) (λ y h.
        let (z, is, at) = Contains-map f xs y h in
        subst (λ v. S (f x) v ≡ Less) is (rises x z (Contains-here x xs) (Contains-there x xs z at)
        (All-contains (λ v. R x v ≡ Less) xs z (All-from_recursion (λ v. R x v ≡ Less) xs up.0) at)))),
    map-ascends xs (λ y z h k. rises y z (Contains-there x xs y h) (Contains-there x xs z k)) up.1,
  )

  pub mapped_lists : (P : X → Type 0) (Q : Y → Type 0) (xs : List X) → ListsExactly R P xs
      → ((x y : X) → P x → P y → R x y ≡ Less → S (f x) (f y) ≡ Less)
      → ((x : X) → P x → Q (f x)) → ((y : Y) → Q y → (x : X) × P x × (f x ≡ y)) → ListsExactly S Q (map f xs)
  mapped_lists P Q xs all rises to from = record {
    ascending = map-ascends xs (λ x y h k. rises x y (all.sound x h) (all.sound y k)) all.ascending;
    sound = λ y h. let (x, is, at) = Contains-map f xs y h in subst Q is (to x (all.sound x at));
    complete = λ y q. let (x, p, is) = from y q in subst (Contains (map f xs)) is (Contains-mapped f xs x (all.complete x p));
  }

-- numbers that are compared
below : (a b : ℕ) → nat_cmp a b ≡ Less → a < b
below a b h = grind (arith, nat_tests)

-- the order by rank goes on after a tie
by_rank_cases : (ranks : List ℕ) (i j : ℕ) → rank_cmp ranks i j ≡ Less
    → (nat_cmp (slice_index ranks i) (slice_index ranks j) ≡ Less) ⊎ ((nat_cmp (slice_index ranks i) (slice_index ranks j) ≡ Equal) × (i < j))
by_rank_cases ranks i j h = by (nat_cmp (slice_index ranks i) (slice_index ranks j)) refl
  where
    by : (o : Ordering) → nat_cmp (slice_index ranks i) (slice_index ranks j) ≡ o → (o ≡ Less) ⊎ ((o ≡ Equal) × (i < j))
    by Less e = inl refl
    by Equal e = inr (refl, below i j (sym (ap (λ r. ordering_then r (nat_cmp i j)) e) ∙ h))
    by Greater e = let g = ap (λ r. ordering_then r (nat_cmp i j)) e in cc

then_none : (o : Ordering) → ordering_then o Equal ≡ o
then_none Less = refl
then_none Equal = refl
then_none Greater = refl

-- edges by label, from edges by start
by_label_rises : (d e : Edge) → d.label ≡ e.label → edge_cmp d e ≡ Less → by_label_cmp d e ≡ Less
by_label_rises d e same less =
    let tied : bytes_cmp d.label e.label ≡ Equal = ap (bytes_cmp d.label) (sym same) ∙ tied_itself bytes_cmp-total d.label in
    ap (λ o. ordering_then o (ordering_then (bytes_cmp d.from e.from) (value_cmp d.to e.to))) tied
    ∙ sym (ap (λ o. ordering_then (bytes_cmp d.from e.from) (ordering_then o (value_cmp d.to e.to))) tied) ∙ less

-- and by end, from edges by label
by_end_rises : (d e : Edge) → d.to ≡ e.to → by_label_cmp d e ≡ Less → by_end_cmp d e ≡ Less
by_end_rises d e same less =
    let tied : value_cmp d.to e.to ≡ Equal = ap (value_cmp d.to) (sym same) ∙ tied_itself value_cmp-total d.to in
    ap (λ o. ordering_then o (ordering_then (bytes_cmp d.label e.label) (bytes_cmp d.from e.from))) tied
    ∙ sym (ap (ordering_then (bytes_cmp d.label e.label)) (ap (ordering_then (bytes_cmp d.from e.from)) tied ∙ then_none (bytes_cmp d.from e.from))) ∙ less

map_map : {X Y Z : Type 0} (f : Y → Z) (g : X → Y) (xs : List X) → map f (map g xs) ≡ map (λ x. f (g x)) xs
map_map f g [] = refl
map_map f g (x ∷ xs) = ap (λ zs. f (g x) ∷ zs) (map_map f g xs)

module _ (es : List Edge) where
  edge_here : (e : Edge) → Contains es e → (i : ℕ) × (i < length es) × (edge_at es i ≡ e)
  edge_here e (i, l, is) = (i, l, get_or_default es i _ e l ∙ is)

  edge_is : (i : ℕ) → i < length es → item_at (map (λ (e : Edge). e.label) es) [] i ≡ (edge_at es i).label
  edge_is i l = get_or-map (λ (e : Edge). e.label) es i _ [] l

  pub labelled_order : (ranks order : List ℕ) → IsStrictlySortedBy edge_cmp es → AreOrderedAs bytes_cmp (map (λ (e : Edge). e.label) es) ranks
      → ListsExactly (rank_cmp ranks) (λ i. i < length ranks) order → IsOrder by_label_cmp es order
  labelled_order ranks order up are all = record {
    fits = All-from_contained (λ i. i < length es) order (λ i h. let l = all.sound i h in omega (arith, l, same));
    lists = mapped_lists (rank_cmp ranks) by_label_cmp (edge_at es) (λ i. i < length ranks) (Contains es) order all
        (λ i j k l less. rises i j (omega (arith, k, same)) (omega (arith, l, same)) (by_rank_cases ranks i j less))
        (λ i l. Contains-get_or es i _ (omega (arith, l, same)))
        (λ e at. let (i, l, is) = edge_here e at in (i, omega (arith, l, same), is));
  }
    where
      long : length (map (λ (e : Edge). e.label) es) ≡ length es
      long = length-map es (λ (e : Edge). e.label)

      same : length ranks ≡ length es
      same = are.counted ∙ long

      rises : (i j : ℕ) → i < length es → j < length es
          → (nat_cmp (slice_index ranks i) (slice_index ranks j) ≡ Less) ⊎ ((nat_cmp (slice_index ranks i) (slice_index ranks j) ≡ Equal) × (i < j))
          → by_label_cmp (edge_at es i) (edge_at es j) ≡ Less
      rises i j k l (inl h) =
          ap (λ o. ordering_then o (ordering_then (bytes_cmp (edge_at es i).from (edge_at es j).from) (value_cmp (edge_at es i).to (edge_at es j).to)))
          (rw (edge_is i k, edge_is j l) at (are.less i j [] (omega (arith, k, long)) (omega (arith, l, long)) h))
      rises i j k l (inr (h, m)) =
          by_label_rises (edge_at es i) (edge_at es j) (sym (edge_is i k) ∙ are.same i j [] (omega (arith, k, long)) (omega (arith, l, long)) h ∙ edge_is j l) (Less-from_sorted edge_cmp es i j _ up m l)

  end_is : (i : ℕ) → i < length es → item_at (map (λ (e : Edge). e.to) es) (node []) i ≡ (edge_at es i).to
  end_is i l = get_or-map (λ (e : Edge). e.to) es i _ (node []) l

  -- the ranks of ends, by label, and their places in order
  pub end_order : (labelled ranks places : List ℕ) → IsOrder by_label_cmp es labelled → AreOrderedAs value_cmp (map (λ (e : Edge). e.to) es) ranks
      → ListsExactly (rank_cmp (map (slice_index ranks) labelled)) (λ k. k < length (map (slice_index ranks) labelled)) places
      → IsOrder by_end_cmp es (map (slice_index labelled) places)
  end_order labelled ranks places by_label are all = record {
    fits = All-from_contained (λ i. i < length es) (map (slice_index labelled) places) (λ i h.
        let (k, is, at) = Contains-map (slice_index labelled) places i h in
        subst (λ j. j < length es) is (by_label.fits k 0 (omega (arith, all.sound k at, same))));
    lists = subst (ListsExactly by_end_cmp (Contains es)) (sym (map_map (edge_at es) (slice_index labelled) places))
        (mapped_lists (rank_cmp ends) by_end_cmp (λ k. edge_at es (slice_index labelled k)) (λ k. k < length ends) (Contains es) places all
        (λ k m h j less. rises k m (omega (arith, h, same)) (omega (arith, j, same)) (by_rank_cases ends k m less))
        (λ k h. Contains-get_or es (slice_index labelled k) _ (by_label.fits k 0 (omega (arith, h, same))))
        (λ e at.
        let (i, is, there) = Contains-map (edge_at es) labelled e (by_label.lists.complete e at) in
        let (k, l, place) = there in
        (k, omega (arith, l, same), ap (edge_at es) (get_or_default labelled k 0 i l ∙ place) ∙ is)));
  }
    where
      ends : List ℕ
      ends = map (slice_index ranks) labelled

      same : length ends ≡ length labelled
      same = length-map labelled (slice_index ranks)

      long : length (map (λ (e : Edge). e.to) es) ≡ length es
      long = length-map es (λ (e : Edge). e.to)

      rank_is : (k : ℕ) → k < length labelled → slice_index ends k ≡ slice_index ranks (slice_index labelled k)
      rank_is k l = get_or-map (slice_index ranks) labelled k 0 0 l

      rises : (k m : ℕ) → k < length labelled → m < length labelled
          → (nat_cmp (slice_index ends k) (slice_index ends m) ≡ Less) ⊎ ((nat_cmp (slice_index ends k) (slice_index ends m) ≡ Equal) × (k < m))
          → by_end_cmp (edge_at es (slice_index labelled k)) (edge_at es (slice_index labelled m)) ≡ Less
      rises k m h j (inl less) =
          let d = edge_at es (slice_index labelled k) in let e = edge_at es (slice_index labelled m) in
          let a = by_label.fits k 0 h in let b = by_label.fits m 0 j in
          ap (λ o. ordering_then o (ordering_then (bytes_cmp d.label e.label) (bytes_cmp d.from e.from)))
          (rw (end_is (slice_index labelled k) a, end_is (slice_index labelled m) b) at
          (are.less (slice_index labelled k) (slice_index labelled m) (node []) (omega (arith, a, long)) (omega (arith, b, long)) (rw (rank_is k h, rank_is m j) at less)))
      rises k m h j (inr (tie, up)) =
          let a = by_label.fits k 0 h in let b = by_label.fits m 0 j in
          by_end_rises (edge_at es (slice_index labelled k)) (edge_at es (slice_index labelled m))
          (sym (end_is (slice_index labelled k) a)
          ∙ are.same (slice_index labelled k) (slice_index labelled m) (node []) (omega (arith, a, long)) (omega (arith, b, long)) (rw (rank_is k h, rank_is m j) at tie)
          ∙ end_is (slice_index labelled m) b)
          (rw (← get_or-map (edge_at es) labelled k 0 (edge_at es 0) h, ← get_or-map (edge_at es) labelled m 0 (edge_at es 0) j)
          (Less-from_sorted by_label_cmp (edges_at es labelled) k m (edge_at es 0) by_label.lists.ascending up (omega (arith, length-map labelled (edge_at es)))))
