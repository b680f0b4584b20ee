-- References to members, put in order by their nodes.
use Rattle.std.specs.Prelude.{◌≡◌, ◌+◌, suc, Bool, true, false, not, ◌&&◌, ◌||◌, cond, List, [], ◌∷◌, ◌++◌, map, filter, if◌then◌else◌, Contains, IsPermutation}
use Rattle.std.specs.declared.cmp.Ordering.{Ordering}
use Rattle.std.specs.declared.cmp.Ordering.TheVariants.{Less, Equal, Greater}
use Rattle.std.specs.Ordering.{is_eq, is_lt, ordering_reverse}
use Rattle.std.specs.Borrow.{Bor}
use Rattle.std.specs.Cmp.{IsStrictWeakOrder}
use Rattle.std.specs.List.{list_any}
use Rattle.std.specs.List.Sorted.{IsSortedBy, IsStableBy, ties}
use Rattle.std.proofs.Common.{arith, refl, sym, ap, subst, ◌∙◌, get_or}
use Rattle.std.proofs.lemmas.List.Folds.{Any-from_list_any}
use Rattle.std.proofs.lemmas.List.MinMax.{ranks_by}
use Rattle.std.proofs.lemmas.List.Sorted.{sorted_far, list_any-IsPermutation, Contains-permutation, IsPermutation-sym}
use Rattle.sd_value.specs.Order.{bytes_cmp}
use Rattle.sd_value.specs.OrderLaws.{bytes_cmp-total}
use Rattle.sd_value.specs.Members.{Contains-mapped}
use Rattle.graph_spec.specs.declared.Member.{Member}
use Rattle.sd_ddl.specs.Kinds.{Name, same_name}
use Rattle.sd_ddl.specs.Written.{collections_of}
use Rattle.sd_ddl.specs.Groups.{Rises, node_in, node_is, collection_in, IsByNode}
use Rattle.sd_ddl.proofs.Maps.{same_name-is}

abbrev pub below : Bor Member → Bor Member → Bool
below m k = is_lt (bytes_cmp (node_in m) (node_in k))

pub below-orders : IsStrictWeakOrder below
below-orders = ranks_by bytes_cmp-total node_in

filter-alike : {X : Type 0} (p q : X → Bool) (xs : List X) → ((x : X) → p x ≡ q x) → filter p xs ≡ filter q xs
filter-alike p q [] h = refl
filter-alike p q (x ∷ xs) h = (λ j. cond (h x j) (x ∷ filter-alike p q xs h j) (filter-alike p q xs h j))

module _ {X : Type 0} (name : X → Name) where
  -- sorted neighbours rise
  pub rises : (xs : List X) → IsSortedBy (λ x y. is_lt (bytes_cmp (name x) (name y))) xs → Rises name xs
  rises [] up = tt
  rises (x ∷ xs) up = (
    λ k d lt. sorted_far (λ y z. is_lt (bytes_cmp (name y) (name z))) (ranks_by bytes_cmp-total name) (x ∷ xs) up 0 (suc k) d (omega arith) (omega arith),
    rises xs (λ k d from lt. let e : suc k + 1 ≡ suc (k + 1) = omega arith in subst (λ j. is_lt (bytes_cmp (name (get_or (x ∷ xs) j d)) (name (get_or xs k d))) ≡ false) e (up (suc k) d (omega arith) (omega arith))),
  )

-- neither node is below the other where they are one
tied : (n a : Name) → (not (is_lt (bytes_cmp n a)) && not (is_lt (bytes_cmp a n))) ≡ same_name a n
tied n a = ap (λ r. not (is_lt r) && not (is_lt (bytes_cmp a n))) (bytes_cmp-total.antisymm n a) ∙ by (bytes_cmp a n)
  where
    by : (r : Ordering) → (not (is_lt (ordering_reverse r)) && not (is_lt r)) ≡ is_eq r
    by Less = refl
    by Equal = refl
    by Greater = refl

-- a node's members, as references
pub collections_referred : (n : Name) (all : List (Bor Member)) → map collection_in (filter (node_is n) all) ≡ collections_of (map (λ m. m.now) all) n
collections_referred n [] = refl
collections_referred n (m ∷ all) = by (node_is n m) (collections_referred n all)
  where
    by : (b : Bool) → map collection_in (filter (node_is n) all) ≡ collections_of (map (λ m. m.now) all) n → map collection_in (cond b (m ∷ filter (node_is n) all) (filter (node_is n) all)) ≡ (if b then collection_in m ∷ [] else []) ++ collections_of (map (λ m. m.now) all) n
    by true rest = ap (λ cs. collection_in m ∷ cs) rest
    by false rest = rest

no_one : (p : Bor Member → Bool) (xs : List (Bor Member)) → list_any p xs ≡ false → filter p xs ≡ []
no_one p [] h = refl
no_one p (x ∷ xs) h = by (p x) h (no_one p xs)
  where
    by : (b : Bool) → (b || list_any p xs) ≡ false → (list_any p xs ≡ false → filter p xs ≡ []) → cond b (x ∷ filter p xs) (filter p xs) ≡ []
    by true h rest = cc
    by false h rest = rest h

-- a stable sort keeps the order of each node's members
kept_order : (all sorted : List (Bor Member)) → IsPermutation all sorted → IsStableBy below all sorted → (n : Name) → filter (node_is n) sorted ≡ filter (node_is n) all
kept_order all sorted moved stable n = by (list_any (node_is n) all) refl
  where
    by : (b : Bool) → list_any (node_is n) all ≡ b → filter (node_is n) sorted ≡ filter (node_is n) all
    by true some =
        let found = Any-from_list_any (node_is n) all some in
        let m : Bor Member = found.1 in
        let alike : (k : Bor Member) → ties below m k ≡ node_is n k = λ k. ap (λ a. not (is_lt (bytes_cmp a (node_in k))) && not (is_lt (bytes_cmp (node_in k) a))) (same_name-is (node_in m) n found.4) ∙ tied n (node_in k) in
        sym (filter-alike (ties below m) (node_is n) sorted alike) ∙ stable m ∙ filter-alike (ties below m) (node_is n) all alike
    by false none = no_one (node_is n) sorted (sym (list_any-IsPermutation (node_is n) all sorted moved) ∙ none) ∙ sym (no_one (node_is n) all none)

pub sorted_by_node : (members : List Member) (all sorted : List (Bor Member)) → map (λ m. m.now) all ≡ members → IsPermutation all sorted → IsSortedBy below sorted → IsStableBy below all sorted → IsByNode members sorted
sorted_by_node members all sorted same moved up stable = record {
  rises = rises node_in sorted up;
  members_in = λ m h. subst (λ ms. Contains ms m.now) same (Contains-mapped (λ (k : Bor Member). k.now) all m (Contains-permutation sorted all m (IsPermutation-sym all sorted moved) h));
  members_of = λ n. ap (map collection_in) (kept_order all sorted moved stable n) ∙ collections_referred n all ∙ ap (λ ms. collections_of ms n) same;
}
