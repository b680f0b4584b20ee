-- Look-ups in ascending names.
use Rattle.std.proofs.Common.{◌≡◌, ℕ, zero, suc, ◌<◌, ◌≤◌, List, [], ◌∷◌, length, add-one, arith, refl, sym, ◌∙◌, subst, inl, inr, Result, Ok, Err}
use Rattle.std.specs.Prelude.{◌⊎◌, ◌↔◌, Contains, Bool, false, IsTrue}
use Rattle.std.specs.Result.{is_ok}
use Rattle.std.specs.declared.cmp.Ordering.{Ordering}
use Rattle.std.specs.declared.cmp.Ordering.TheVariants.{Less, Equal, Greater}
use Rattle.std.specs.Ordering.{is_lt, ordering_reverse}
use Rattle.std.specs.List.Sorted.{IsStrictlySortedBy, IsSortedBy, IsBinarySearchResult, IsSearchInRange}
use Rattle.std.proofs.lemmas.Cmp.{tied_itself}
use Rattle.std.proofs.lemmas.List.Sorted.{searchable_from_sorted}
use Rattle.sd_value.specs.Names.{Name}
use Rattle.sd_value.specs.Order.{bytes_cmp}
use Rattle.sd_value.specs.OrderLaws.{bytes_cmp-exact, bytes_cmp-total}

not_less_back : (x y : Name) → bytes_cmp x y ≡ Less → is_lt (bytes_cmp y x) ≡ false
not_less_back x y less = by_turn (bytes_cmp y x) (sym (bytes_cmp-total.antisymm x y) ∙ less)
  where
    by_turn : (o : Ordering) → ordering_reverse o ≡ Less → is_lt o ≡ false
    by_turn Less e = cc
    by_turn Equal e = refl
    by_turn Greater e = refl

sorted : (xs : List Name) → IsStrictlySortedBy bytes_cmp xs → IsSortedBy (λ a b. is_lt (bytes_cmp a b)) xs
unfolding IsStrictlySortedBy
sorted [] h k d low high = absurd (omega arith)
sorted (x ∷ []) h k d low high = absurd (omega arith)
sorted (x ∷ y ∷ xs) h zero d low high = not_less_back x y h.0.0
sorted (x ∷ y ∷ xs) h (suc k) d low high = rw add-one (rw add-one at (sorted (y ∷ xs) h.1 k d (omega arith) (omega (arith, high))))

pub among : (xs : List Name) (x : Name) (r : Result ℕ ℕ) (b : Bool) → b ≡ is_ok r → IsSearchInRange r (length xs) → IsBinarySearchResult (λ y. bytes_cmp y x) xs r
    → IsStrictlySortedBy bytes_cmp xs → IsTrue b ↔ Contains xs x
among xs x (Ok i) b is range found ascending = ((λ yes. (i, range, bytes_cmp-exact _ _ (found x))), (λ at. is))
among xs x (Err i) b is range found ascending = ((λ yes. (let no : b ≡ false = is in cc)), (λ at. absurd (nowhere at)))
  where
    side : (k : ℕ) → (k < i) ⊎ (i ≤ k)
    side k = search arith

    nowhere : Contains xs x → ⊥
    nowhere (k, within, here) =
        let parts = found (searchable_from_sorted bytes_cmp-total (λ v. v) xs x (sorted xs ascending)) in
        let tied : bytes_cmp x x ≡ Equal = tied_itself bytes_cmp-total x in
        elim (side k) [
          | inl before ↦ (let less : bytes_cmp x x ≡ Less = subst (λ v. bytes_cmp v x ≡ Less) here (parts.0 k x (omega arith) before) in cc)
          | inr after ↦ (let more : bytes_cmp x x ≡ Greater = subst (λ v. bytes_cmp v x ≡ Greater) here (parts.1 k x after within) in cc)
        ]
