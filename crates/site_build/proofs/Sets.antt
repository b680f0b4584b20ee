-- What is in a set after an item was put in, and a set's items in order.
use Rattle.std.specs.Prelude.{◌≡◌, ◌⊎◌, ◌<◌, ℕ, zero, suc, ◌+◌, Bool, true, false, List, [], ◌∷◌, ◌++◌, if◌then◌else◌, length, Contains, IsSorted, Some}
use Rattle.std.specs.declared.cmp.Ordering.{Ordering}
use Rattle.std.specs.declared.cmp.Ordering.TheVariants.{Less, Equal, Greater}
use Rattle.std.specs.Ordering.{eq_by_cmp, is_eq, is_lt, ordering_reverse}
use Rattle.std.specs.Cmp.{IsTotalOrder}
use Rattle.std.specs.List.{IsDistinct, list_any}
use Rattle.std.specs.List.Sorted.{IsStrictlySortedBy}
use Rattle.std.proofs.Common.{arith, refl, sym, ap, ◌∙◌, subst, inl, inr, ⊎_elim, get_or}
use Rattle.std.proofs.lemmas.List.Elements.{All-from_recursion, Contains-append_left, Contains-push_cases}
use Rattle.std.proofs.lemmas.Map.Keys.{IsDistinct-head, IsDistinct-tail, sorted_from_all_adjacent}
use Rattle.indexmap.specs.IndexSet.{insert_key}
use Rattle.indexmap.proofs.CallerLemmas.{Contains-insert_key}
use Rattle.site_build.specs.Gains.{Gains}

module _ {K : Type 0} (E : K → K → Bool) (exact : (x y : K) → E x y ≡ true → x ≡ y) (ks : List K) (k : K) where
  inserted_cases : (x : K) → Contains (insert_key E ks k) x → Contains ks x ⊎ (k ≡ x)
  inserted_cases x h = by (list_any (E k) ks) h
    where
      by : (b : Bool) → Contains (if b then ks else ks ++ k ∷ []) x → Contains ks x ⊎ (k ≡ x)
      by true h = inl h
      by false h = Contains-push_cases ks k x h

  inserted_keeps : (x : K) → Contains ks x → Contains (insert_key E ks k) x
  inserted_keeps x h = by (list_any (E k) ks)
    where
      by : (b : Bool) → Contains (if b then ks else ks ++ k ∷ []) x
      by true = h
      by false = Contains-append_left ks (k ∷ []) x h

  pub gains_inserted : Gains (λ x. Some k ≡ Some x) ks (insert_key E ks k)
  gains_inserted = record {
    to = λ x h. ⊎_elim (λ old. inl old) (λ e. inr (ap Some e)) (inserted_cases x h);
    kept = inserted_keeps;
    gained = λ x e. let same : k ≡ x = cc in subst (Contains (insert_key E ks k)) same (Contains-insert_key E exact ks k);
  }

neighbours_differ : {K : Type 0} (E : K → K → Bool) (xs : List K) → IsDistinct E xs → (k : ℕ) (d : K) → k + 1 < length xs → E (get_or xs k d) (get_or xs (k + 1) d) ≡ false
neighbours_differ E [] h k d l = absurd (omega arith)
neighbours_differ E (x ∷ xs) h zero d l = All-from_recursion (λ y. E x y ≡ false) xs (IsDistinct-head E x xs h) 0 d (omega arith)
neighbours_differ E (x ∷ xs) h (suc k) d l =
    let next : suc k + 1 ≡ suc (k + 1) = omega arith in rw next (neighbours_differ E xs (IsDistinct-tail E x xs h) k d (omega arith))

module _ {K : Type 0} {R : K → K → Ordering} (total : IsTotalOrder R) {E : K → K → Bool} (ties : (x y : K) → E x y ≡ eq_by_cmp R x y) where
  only_less : (x y : K) → is_lt (R y x) ≡ false → E x y ≡ false → R x y ≡ Less
  only_less x y up differ = by (R x y) refl
    where
      by : (o : Ordering) → R x y ≡ o → o ≡ Less
      by Less e = refl
      by Equal e = let t = sym (ties x y) ∙ differ in let u = ap is_eq e in cc
      by Greater e = let t = total.antisymm y x ∙ ap ordering_reverse e in let u = ap is_lt t in cc

  -- a sorted list without repeats ascends
  pub strictly_sorted : (xs : List K) → IsSorted R xs → IsDistinct E xs → IsStrictlySortedBy R xs
  unfolding IsStrictlySortedBy
  strictly_sorted [] sorted distinct = tt
  strictly_sorted (x ∷ xs) sorted distinct =
      sorted_from_all_adjacent total (x ∷ xs) x (λ k l. only_less _ _ (sorted k x (omega arith) l) (neighbours_differ E (x ∷ xs) distinct k x l))
