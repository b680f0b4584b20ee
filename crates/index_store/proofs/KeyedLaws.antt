-- Places in the order of their items.
use Rattle.std.specs.Prelude.{◌≡◌, ◌⊎◌, ◌<◌, ◌≤◌, ℕ, ◌+◌, List, [], ◌∷◌, ◌++◌, drop, map, length, slice_index, All, Contains}
use Rattle.std.specs.declared.cmp.Ordering.{Ordering}
use Rattle.std.specs.declared.cmp.Ordering.TheVariants.{Less, Equal, Greater}
use Rattle.std.specs.Ordering.{ordering_then, nat_cmp}
use Rattle.std.specs.FinMap.{nat_cmp-IsAntisymmetric}
use Rattle.std.specs.Cmp.{IsTotalOrder}
use Rattle.std.specs.List.{IsDistinct}
use Rattle.std.proofs.Common.{arith, refl, sym, ap, ◌∙◌, subst, inl, inr, get_or, eqb}
use Rattle.std.proofs.lemmas.Bool.{ne_eqb, eqb-true}
use Rattle.std.proofs.lemmas.Bool.Decides.{nat_tests}
use Rattle.std.proofs.lemmas.Cmp.{tied_itself}
use Rattle.std.proofs.lemmas.List.{length-map, length-drop, length-append, get_or-map, get_or-drop, get_or-append-add, get_or_default}
use Rattle.std.proofs.lemmas.List.Elements.{Contains-get_or, Contains-push, Contains-push_cases, Contains-append_left}
use Rattle.std.proofs.lemmas.Map.Keys.{Less-from_sorted, sorted_from_all_adjacent, IsDistinct-from_apart}
use Rattle.std.proofs.lemmas.Map.Steps.{length-le_from_distinct_below}
use Rattle.std.proofs.lemmas.Map.Views.{Contains-from_any}
use Rattle.sd_value.specs.Ascending.{ListsExactly}
use Rattle.sd_value.specs.Members.{Contains-map, Contains-mapped}
use Rattle.sd_value.specs.OrderLaws.{both_tie}
use Rattle.index_store.specs.declared.ranks.Keyed.{Keyed}
use Rattle.index_store.specs.Ranks.{item_at, turn_cmp, keyed_cmp, IsInOrder, IsMerged, AreFirsts, AreRanks, AreOrderedAs, AreKeyed}
use Rattle.index_store.proofs.RankLaws.{All-from_contained, map-ascends}

-- one place more
pub keyed_more : {X : Type 0} (xs : List X) (places : List ℕ) (ks : List (Keyed X)) → AreKeyed xs places ks → (k : Keyed X) → ((d : X) → k.key.now ≡ item_at xs d k.place) → AreKeyed xs (places ++ k.place ∷ []) (ks ++ k ∷ [])
keyed_more xs places ks are k is = record {
  sound = λ q h. elim (Contains-push_cases ks k q h) [
    | inl old ↦ let (at, same) = are.sound q old in (Contains-append_left places _ _ at, same)
    | inr e ↦ subst (λ (r : Keyed _). Contains (places ++ k.place ∷ []) r.place × ((d : _) → r.key.now ≡ item_at xs d r.place)) e (Contains-push places k.place, is)
  ];
  complete = λ i h. elim (Contains-push_cases places k.place i h) [
    | inl old ↦ let (q, at, same) = are.complete i old in (q, Contains-append_left ks _ _ at, same)
    | inr e ↦ (k, Contains-push ks k, e)
  ];
}

-- an order that goes on after a tie
then_cases : (o p : Ordering) → ordering_then o p ≡ Less → (o ≡ Less) ⊎ ((o ≡ Equal) × (p ≡ Less))
then_cases Less p h = inl refl
then_cases Equal p h = inr (refl, h)
then_cases Greater p h = cc

below : (a b : ℕ) → nat_cmp a b ≡ Less → a < b
below a b h = grind (arith, nat_tests)

-- the places of items that are in order
pub places_in_order : {X : Type 0} (R : X → X → Ordering) (xs : List X) (places : List ℕ) (old new : List (Keyed X)) → AreKeyed xs places old
    → IsMerged (keyed_cmp R) old new → IsInOrder R xs places (map (λ k. k.place) new)
places_in_order {X} R xs places old new are all = record {
  sound = λ i h. let (k, is, at) = listed_place i h in subst (Contains places) is (are.sound k (all.sound k at)).0;
  complete = λ i h.
      let (k, at, is) = are.complete i h in
      let (q, there, tie) = all.complete k at in
      let ties = both_tie (R k.key.now q.key.now) _ tie in
      subst (Contains (map (λ (p : Keyed X). p.place) new)) (sym (nat_cmp-IsAntisymmetric k.place q.place ties.1) ∙ is) (Contains-mapped (λ (p : Keyed X). p.place) new q there);
  ascending = λ d. map-ascends (keyed_cmp R) (turn_cmp R xs d) (λ k. k.place) new
      (λ p q h k less. rw (← (are.sound p (all.sound p h)).1 d, ← (are.sound q (all.sound q k)).1 d) less) all.ascending;
}
  where
    listed_place : (i : ℕ) → Contains (map (λ (q : Keyed X). q.place) new) i → (k : Keyed X) × (k.place ≡ i) × Contains new k
    listed_place i h = Contains-map (λ (q : Keyed X). q.place) new i h

module _ {X : Type 0} (R : X → X → Ordering) (total : IsTotalOrder R) (xs : List X) (firsts originals order : List ℕ) (are : AreFirsts xs firsts originals) (in_order : IsInOrder R xs firsts order) where
  fits : (i : ℕ) → Contains order i → i < length xs
  fits i h = let (a, l, is) = in_order.sound i h in subst (λ k. k < length xs) (get_or_default firsts a 0 i l ∙ is) (are.fits a 0 l)

  pub order_fits : All (λ i. i < length xs) order
  order_fits = All-from_contained (λ i. i < length xs) order fits

  pub originals_fit : All (λ i. i < length xs) originals
  originals_fit k d l =
      let (a, m, is) = are.known k (omega (arith, l, are.counted)) in
      subst (λ i. i < length xs) (get_or_default firsts a 0 (slice_index originals k) m ∙ is ∙ get_or_default originals k 0 d l) (are.fits a 0 m)

  some_item : (ys : List X) (i : ℕ) → i < length ys → X
  some_item [] i l = absurd (omega arith)
  some_item (y ∷ ys) i l = y

  differ : (d : X) (a b : ℕ) → a < b → b < length order → slice_index order a ≡ slice_index order b → ⊥
  differ d a b less l e =
      let turn = Less-from_sorted (turn_cmp R xs d) order a b 0 (in_order.ascending d) less l in
      elim (then_cases (R (item_at xs d (slice_index order a)) (item_at xs d (slice_index order b))) (nat_cmp (slice_index order a) (slice_index order b)) turn) [
        | inl up ↦ let tied = tied_itself total (item_at xs d (slice_index order b)) in let wrong = rw e at up in cc
        | inr tie ↦ let m = below (slice_index order a) (slice_index order b) tie.1 in omega (arith, m, e)
      ]

  pub order_apart : (a b : ℕ) → a < b → b < length order → slice_index order a ≡ slice_index order b → ⊥
  order_apart a b less l e = differ (some_item xs (slice_index order b) (fits _ (Contains-get_or order b 0 l))) a b less l e

  order_distinct : IsDistinct eqb order
  order_distinct = IsDistinct-from_apart eqb order (λ i j d less l. ne_eqb (get_or order i d) (get_or order j d)
      (λ e. order_apart i j less l (get_or_default order i 0 d (omega (arith, less, l)) ∙ e ∙ sym (get_or_default order j 0 d l))))

  -- there are at most as many as items
  pub order_short : length order ≤ length xs
  order_short = length-le_from_distinct_below order (length xs) order_distinct (λ q h. fits q (Contains-from_any (λ x y t. eqb-true x y t) q order h))

  module _ (exact : (x y : X) → R x y ≡ Equal → x ≡ y) (inverse : List ℕ) (back : (r : ℕ) → r < length order → slice_index inverse (slice_index order r) ≡ r) where
    rank_at : (i : ℕ) → i < length xs → (r : ℕ) × (r < length order) × (slice_index (map (slice_index inverse) originals) i ≡ r) × (slice_index order r ≡ slice_index originals i)
    rank_at i l =
        let (r, m, is) = in_order.complete (slice_index originals i) (are.known i l) in
        let same : slice_index order r ≡ slice_index originals i = get_or_default order r 0 (slice_index originals i) m ∙ is in
        (r, m, get_or-map (slice_index inverse) originals i 0 0 (omega (arith, l, are.counted)) ∙ ap (slice_index inverse) (sym same) ∙ back r m, same)

    pub ranks_are : AreRanks R xs order (map (slice_index inverse) originals)
    ranks_are = record {
      fits = order_fits;
      ascending = λ a b d less l.
          elim (then_cases (R (item_at xs d (slice_index order a)) (item_at xs d (slice_index order b))) (nat_cmp (slice_index order a) (slice_index order b)) (Less-from_sorted (turn_cmp R xs d) order a b 0 (in_order.ascending d) less l)) [
            | inl up ↦ up
            | inr tie ↦
                let same = are.apart (slice_index order a) (slice_index order b) d (in_order.sound _ (Contains-get_or order a 0 (omega (arith, less, l)))) (in_order.sound _ (Contains-get_or order b 0 l)) (exact _ _ tie.0) in
                absurd (omega (arith, same, below (slice_index order a) (slice_index order b) tie.1))
          ];
      counted = length-map originals (slice_index inverse) ∙ are.counted;
      below = λ i l. let (r, m, is, same) = rank_at i l in subst (λ k. k < length order) (sym is) m;
      equal = λ i d l. let (r, m, is, same) = rank_at i l in ap (λ k. item_at xs d (slice_index order k)) is ∙ ap (item_at xs d) same ∙ are.equal i d l;
    }

-- ranks are ordered as the items are
pub ordered : {X : Type 0} (R : X → X → Ordering) (xs : List X) (firsts ranks : List ℕ) → AreRanks R xs firsts ranks → AreOrderedAs R xs ranks
ordered R xs firsts ranks are = record {
  counted = are.counted;
  less = λ i j d l m h. rw (are.equal i d l, are.equal j d m) at (are.ascending (slice_index ranks i) (slice_index ranks j) d (below (slice_index ranks i) (slice_index ranks j) h) (are.below j m));
  same = λ i j d l m h. sym (are.equal i d l) ∙ ap (λ r. item_at xs d (slice_index firsts r)) (nat_cmp-IsAntisymmetric (slice_index ranks i) (slice_index ranks j) h) ∙ are.equal j d m;
}

-- and those of the later items alone
pub ordered_rest : {X : Type 0} (R : X → X → Ordering) (xs ys : List X) (ranks : List ℕ) → AreOrderedAs R (xs ++ ys) ranks → AreOrderedAs R ys (drop (length xs) ranks)
ordered_rest {X} R xs ys ranks are = record {
  counted = omega (arith, length-drop (length xs) ranks, are.counted, length-append xs ys);
  less = λ i j d l m h. rw (later i d, later j d) at (are.less (length xs + i) (length xs + j) d (omega (arith, l, length-append xs ys)) (omega (arith, m, length-append xs ys)) (rw (rank_is i, rank_is j) at h));
  same = λ i j d l m h. sym (later i d) ∙ are.same (length xs + i) (length xs + j) d (omega (arith, l, length-append xs ys)) (omega (arith, m, length-append xs ys)) (rw (rank_is i, rank_is j) at h) ∙ later j d;
}
  where
    later : (i : ℕ) (d : X) → item_at (xs ++ ys) d (length xs + i) ≡ item_at ys d i
    later i d = get_or-append-add xs ys i d

    rank_is : (i : ℕ) → slice_index (drop (length xs) ranks) i ≡ slice_index ranks (length xs + i)
    rank_is i = get_or-drop (length xs) ranks i 0

-- the distinct items, in order
pub ranked_lists : {X : Type 0} {R : X → X → Ordering} (total : IsTotalOrder R) (d : X) (xs : List X) (firsts ranks : List ℕ) → AreRanks R xs firsts ranks → ListsExactly R (Contains xs) (map (item_at xs d) firsts)
ranked_lists {X} {R} total d xs firsts ranks are = record {
  ascending = sorted_from_all_adjacent total (map (item_at xs d) firsts) d (λ k l. step k (omega (arith, l, length-map firsts (item_at xs d))));
  sound = λ x h. let (i, is, at) = Contains-map (item_at xs d) firsts x h in let (a, l, also) = at in
      subst (Contains xs) is (Contains-get_or xs i d (subst (λ k. k < length xs) (get_or_default firsts a 0 i l ∙ also) (are.fits a 0 l)));
  complete = λ x h. let (i, l, is) = h in
      subst (Contains (map (item_at xs d) firsts)) (are.equal i d l ∙ get_or_default xs i d x l ∙ is)
      (Contains-mapped (item_at xs d) firsts (slice_index firsts (slice_index ranks i)) (Contains-get_or firsts (slice_index ranks i) 0 (are.below i l)));
}
  where
    step : (k : ℕ) → k + 1 < length firsts → R (get_or (map (item_at xs d) firsts) k d) (get_or (map (item_at xs d) firsts) (k + 1) d) ≡ Less
    step k l = rw (get_or-map (item_at xs d) firsts k 0 d (omega (arith, l)), get_or-map (item_at xs d) firsts (k + 1) 0 d l) (are.ascending k (k + 1) d (omega arith) l)
