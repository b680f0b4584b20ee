-- The keys of a set by hash, put in order: what they are after an insertion, how many there are, and how they are listed.
use Rattle.std.specs.Prelude.{◌≡◌, ◌<◌, ◌+◌, ℕ, zero, suc, Bool, true, false, List, [], ◌∷◌, ◌++◌, if◌then◌else◌, length, Contains, IsSorted, IsPermutation}
use Rattle.std.specs.declared.cmp.Ordering.{Ordering}
use Rattle.std.specs.declared.cmp.Ordering.TheVariants.{Less, Equal, Greater}
use Rattle.std.specs.Ordering.{eq_by_cmp, is_eq, is_lt, ordering_reverse}
use Rattle.std.specs.BTreeSet.{insert_key}
use Rattle.std.specs.Cmp.{IsTotalOrder, Equal-is}
use Rattle.std.specs.FinMap.{IsAntisymmetric}
use Rattle.std.specs.List.{IsDistinct, list_any}
use Rattle.std.specs.List.Sorted.{IsStrictlySortedBy}
use Rattle.std.proofs.Common.{arith, refl, sym, ap, ◌∙◌, subst, inl, inr, get_or, true≢false}
use Rattle.std.proofs.lemmas.Cmp.{eq_by_cmp_equiv}
use Rattle.std.proofs.lemmas.List.Elements.{All-from_recursion, All-contains}
use Rattle.std.proofs.lemmas.List.Sorted.{Contains-permutation, IsPermutation-sym}
use Rattle.std.proofs.lemmas.List.Sums.{fold-append}
use Rattle.std.proofs.lemmas.Map.Keys.{IsDistinct-head, IsDistinct-tail, IsDistinct-IsPermutation, sorted_from_all_adjacent}
use Rattle.std.proofs.lemmas.Map.Views.{list_any-from_Contains, Contains-from_any}
use Rattle.indexmap.specs.IndexSet.{insert_key as insert_by_hash}
use Rattle.sd_value.specs.Members.{Contains-nil, Contains-here, Contains-there}
use Rattle.sd_value.specs.AscendingLaws.{same_list}
use Rattle.sd_graph.specs.Inserted.{inserted-known, inserted-cases, length-inserted}
use Rattle.sd_graph.specs.Gathered.{insert_all, in_order}
use Rattle.sd_graph.proofs.Gathering.{all_inserted-ascends, all_inserted-here, all_inserted-cases}

pub not_true : (b : Bool) → (b ≡ true → ⊥) → b ≡ false
not_true true never = absurd (never refl)
not_true false never = refl

neighbours_differ : {K : Type 0} (E : K → K → Bool) (xs : List K) → IsDistinct E xs → (k : ℕ) (d : K) → k + 1 < length xs → E (get_or xs k d) (get_or xs (k + 1) d) ≡ false
neighbours_differ E [] h k d l = absurd (omega arith)
neighbours_differ E (x ∷ xs) h zero d l = All-from_recursion (λ y. E x y ≡ false) xs (IsDistinct-head E x xs h) 0 d (omega arith)
neighbours_differ E (x ∷ xs) h (suc k) d l =
    let next : suc k + 1 ≡ suc (k + 1) = omega arith in rw next (neighbours_differ E xs (IsDistinct-tail E x xs h) k d (omega arith))

module _ {X : Type 0} {R : X → X → Ordering} (total : IsTotalOrder R) where
  only_less : (x y : X) → is_lt (R y x) ≡ false → eq_by_cmp R x y ≡ false → R x y ≡ Less
  only_less x y up differ = by (R x y) refl
    where
      by : (o : Ordering) → R x y ≡ o → o ≡ Less
      by Less e = refl
      by Equal e = let u = ap is_eq e in let d : is_eq (R x y) ≡ false = differ in cc
      by Greater e = let t = total.antisymm y x ∙ ap ordering_reverse e in let u = ap is_lt t in cc

  -- a sorted list without repeats ascends
  strictly_sorted : (xs : List X) → IsSorted R xs → IsDistinct (eq_by_cmp R) xs → IsStrictlySortedBy R xs
  unfolding IsStrictlySortedBy
  strictly_sorted [] sorted distinct = tt
  strictly_sorted (x ∷ xs) sorted distinct =
      sorted_from_all_adjacent total (x ∷ xs) x (λ k l. only_less _ _ (sorted k x (omega arith) l) (neighbours_differ (eq_by_cmp R) (x ∷ xs) distinct k x l))

  -- the first of a list without repeats is not among the rest
  first_differs : (x : X) (xs : List X) → IsDistinct (eq_by_cmp R) (x ∷ xs) → Contains xs x → ⊥
  first_differs x xs distinct h =
      let differs : eq_by_cmp R x x ≡ false = All-contains (λ y. eq_by_cmp R x y ≡ false) xs x (All-from_recursion (λ y. eq_by_cmp R x y ≡ false) xs (IsDistinct-head (eq_by_cmp R) x xs distinct)) h in
      true≢false (sym ((eq_by_cmp_equiv total).refl x) ∙ differs)

module _ {X : Type 0} {R : X → X → Ordering} (total : IsTotalOrder R) (exact : IsAntisymmetric R) where
  pub same_key : (x y : X) → eq_by_cmp R x y ≡ true → x ≡ y
  same_key x y e = exact x y ((Equal-is _).0 e)

  pub in_order-ascends : (ks : List X) → IsStrictlySortedBy R (in_order R ks)
  unfolding IsStrictlySortedBy
  in_order-ascends ks = all_inserted-ascends total exact [] ks tt

  pub in_order-has : (ks : List X) (z : X) → Contains ks z → Contains (in_order R ks) z
  in_order-has ks z h = all_inserted-here total exact [] ks z h

  pub in_order-from : (ks : List X) (z : X) → Contains (in_order R ks) z → Contains ks z
  in_order-from ks z h = elim (all_inserted-cases R [] ks z h) [ inl none ↦ absurd (Contains-nil z none) | inr old ↦ old ]

  -- one key more
  pub in_order-inserted : (ks : List X) (k : X) → in_order R (insert_by_hash (eq_by_cmp R) ks k) ≡ insert_key R (in_order R ks) k
  in_order-inserted ks k = by (list_any (eq_by_cmp R k) ks) refl
    where
      by : (b : Bool) → list_any (eq_by_cmp R k) ks ≡ b → in_order R (if b then ks else ks ++ k ∷ []) ≡ insert_key R (in_order R ks) k
      by true e = sym (inserted-known R total k (in_order R ks) (in_order-ascends ks) (in_order-has ks k (Contains-from_any same_key k ks e)))
      by false e = fold-append (insert_key R) [] ks (k ∷ [])

  -- the keys have one that is equal to q, as before they were put in order
  pub in_order-any : (ks : List X) (q : X) → list_any (eq_by_cmp R q) (in_order R ks) ≡ list_any (eq_by_cmp R q) ks
  in_order-any ks q = by (list_any (eq_by_cmp R q) ks) refl
    where
      by : (b : Bool) → list_any (eq_by_cmp R q) ks ≡ b → list_any (eq_by_cmp R q) (in_order R ks) ≡ b
      by true e = list_any-from_Contains (eq_by_cmp_equiv total) q (in_order R ks) (in_order-has ks q (Contains-from_any same_key q ks e))
      by false e =
          not_true _ (λ h. true≢false (sym (list_any-from_Contains (eq_by_cmp_equiv total) q ks (in_order-from ks q (Contains-from_any same_key q (in_order R ks) h))) ∙ e))

  length-all_new : (keys xs : List X) → IsDistinct (eq_by_cmp R) xs → ((z : X) → Contains xs z → Contains keys z → ⊥) → length (insert_all R keys xs) ≡ length keys + length xs
  length-all_new keys [] distinct apart = omega arith
  length-all_new keys (x ∷ xs) distinct apart =
      let one = length-inserted R x keys (not_true _ (λ h. apart x (Contains-here x xs) (Contains-from_any same_key x keys h))) in
      let rest = length-all_new (insert_key R keys x) xs (IsDistinct-tail (eq_by_cmp R) x xs distinct)
      (λ z h m. elim (inserted-cases R x keys z m) [ inl is ↦ first_differs total x xs distinct (subst (Contains xs) (sym is) h) | inr old ↦ apart z (Contains-there x xs z h) old ]) in
      omega arith

  -- putting keys in order loses none
  pub length-in_order : (ks : List X) → IsDistinct (eq_by_cmp R) ks → length (in_order R ks) ≡ length ks
  length-in_order ks distinct = let all = length-all_new [] ks distinct (λ z h none. Contains-nil z none) in omega arith

  -- sorting them gives them in order
  pub in_order-sorted : (ks xs : List X) → IsPermutation ks xs → IsDistinct (eq_by_cmp R) ks → IsSorted R xs → xs ≡ in_order R ks
  in_order-sorted ks xs moved distinct sorted =
      same_list total xs (in_order R ks) (strictly_sorted total xs sorted (IsDistinct-IsPermutation (eq_by_cmp R) (eq_by_cmp_equiv total).symm ks xs moved distinct)) (in_order-ascends ks)
      (λ z h. in_order-has ks z (Contains-permutation xs ks z (IsPermutation-sym ks xs moved) h))
      (λ z h. Contains-permutation ks xs z moved (in_order-from ks z h))
