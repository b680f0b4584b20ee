-- Taking a key out of an ascending list, and out of a set by hash.
use Rattle.std.specs.Prelude.{◌≡◌, ◌⊎◌, Bool, true, false, cond, List, [], ◌∷◌, Contains}
use Rattle.std.specs.declared.cmp.Ordering.{Ordering}
use Rattle.std.specs.declared.cmp.Ordering.TheVariants.{Less, Equal, Greater}
use Rattle.std.specs.Ordering.{eq_by_cmp, is_eq}
use Rattle.std.specs.BTreeMap.{is_at}
use Rattle.std.specs.Cmp.{IsTotalOrder}
use Rattle.std.specs.FinMap.{IsAntisymmetric}
use Rattle.std.specs.List.{list_any}
use Rattle.std.specs.List.Sorted.{IsStrictlySortedBy}
use Rattle.std.specs.Set.{remove_key}
use Rattle.std.proofs.Common.{refl, sym, ap, ◌∙◌, subst, inl, inr, true≢false}
use Rattle.std.proofs.lemmas.Cmp.{eq_by_cmp_equiv}
use Rattle.std.proofs.lemmas.List.Elements.{All-from_recursion, recursion_from_All}
use Rattle.std.proofs.lemmas.Map.Views.{All-remove_key, list_any-from_Contains, Contains-from_any}
use Rattle.sd_value.specs.Members.{Contains-nil, Contains-cons_cases, Contains-here, Contains-there}
use Rattle.sd_value.specs.AscendingLaws.{head_below, tail_ascends, same_list}
use Rattle.sd_graph.specs.Gathered.{in_order}
use Rattle.sd_graph.proofs.ByHash.{same_key, in_order-ascends, in_order-has, in_order-from}

-- what is left where the key is not the one that goes
both_told : (b c : Bool) → cond b false c ≡ true → (b ≡ false) × (c ≡ true)
both_told true c h = cc
both_told false c h = (refl, h)

module _ {X : Type 0} (test : X → Bool) where
  removed-from : (xs : List X) (z : X) → Contains (remove_key test xs) z → Contains xs z
  removed-from [] z h = h
  removed-from (x ∷ xs) z h = by (test x) (removed-from xs z) h
    where
      by : (b : Bool) → (Contains (remove_key test xs) z → Contains xs z) → Contains (cond b xs (x ∷ remove_key test xs)) z → Contains (x ∷ xs) z
      by true rest h = Contains-there x xs z h
      by false rest h = elim (Contains-cons_cases x (remove_key test xs) z h) [ inl e ↦ subst (Contains (x ∷ xs)) e (Contains-here x xs) | inr later ↦ Contains-there x xs z (rest later) ]

  removed-keeps : (xs : List X) (z : X) → test z ≡ false → Contains xs z → Contains (remove_key test xs) z
  removed-keeps [] z other h = h
  removed-keeps (x ∷ xs) z other h = by (test x) refl (removed-keeps xs z other) (Contains-cons_cases x xs z h)
    where
      by : (b : Bool) → test x ≡ b → (Contains xs z → Contains (remove_key test xs) z) → (x ≡ z) ⊎ Contains xs z → Contains (cond b xs (x ∷ remove_key test xs)) z
      by true is rest (inl e) = absurd (true≢false (sym is ∙ ap test e ∙ other))
      by true is rest (inr later) = later
      by false is rest (inl e) = subst (Contains (x ∷ remove_key test xs)) e (Contains-here x (remove_key test xs))
      by false is rest (inr later) = Contains-there x (remove_key test xs) z (rest later)

module _ {X : Type 0} {R : X → X → Ordering} (total : IsTotalOrder R) (exact : IsAntisymmetric R) where
  removed-ascends : (test : X → Bool) (xs : List X) → IsStrictlySortedBy R xs → IsStrictlySortedBy R (remove_key test xs)
  unfolding IsStrictlySortedBy
  removed-ascends test [] up = tt
  removed-ascends test (x ∷ xs) up = by (test x) (removed-ascends test xs up.1)
    where
      by : (b : Bool) → IsStrictlySortedBy R (remove_key test xs) → IsStrictlySortedBy R (cond b xs (x ∷ remove_key test xs))
      by true rest = up.1
      by false rest = (
        recursion_from_All (λ y. R x y ≡ Less) (remove_key test xs) (All-remove_key test (λ y. R x y ≡ Less) xs (All-from_recursion (λ y. R x y ≡ Less) xs up.0)),
        rest,
      )

  -- no key that ties is left
  removed-differs : (n : X) (xs : List X) (z : X) → IsStrictlySortedBy R xs → Contains (remove_key (is_at (R n)) xs) z → is_eq (R n z) ≡ false
  removed-differs n [] z up h = absurd (Contains-nil z h)
  removed-differs n (x ∷ xs) z up h = by (R n x) refl (removed-differs n xs z (tail_ascends total x xs up)) h
    where
      by : (r : Ordering) → R n x ≡ r → (Contains (remove_key (is_at (R n)) xs) z → is_eq (R n z) ≡ false) → Contains (cond (is_eq r) xs (x ∷ remove_key (is_at (R n)) xs)) z → is_eq (R n z) ≡ false
      by Equal is rest h = ap is_eq (subst (λ y. R y z ≡ Less) (sym (exact n x is)) (head_below total x xs up z h))
      by Less is rest h = elim (Contains-cons_cases x (remove_key (is_at (R n)) xs) z h) [ inl e ↦ ap is_eq (subst (λ y. R n y ≡ Less) e is) | inr later ↦ rest later ]
      by Greater is rest h = elim (Contains-cons_cases x (remove_key (is_at (R n)) xs) z h) [ inl e ↦ ap is_eq (subst (λ y. R n y ≡ Greater) e is) | inr later ↦ rest later ]

  -- one key less, whatever became of the order in which they came
  pub in_order-removed : (n : X) (old new : List X) → ((q : X) → list_any (eq_by_cmp R q) new ≡ cond (eq_by_cmp R n q) false (list_any (eq_by_cmp R q) old))
      → in_order R new ≡ remove_key (is_at (R n)) (in_order R old)
  in_order-removed n old new told =
      let up = in_order-ascends total exact old in
      same_list total _ _ (in_order-ascends total exact new) (removed-ascends (is_at (R n)) (in_order R old) up)
      (λ z h.
      let there = both_told _ _ (sym (told z) ∙ list_any-from_Contains (eq_by_cmp_equiv total) z new (in_order-from total exact new z h)) in
      removed-keeps (is_at (R n)) (in_order R old) z there.0 (in_order-has total exact old z (Contains-from_any (same_key total exact) z old there.1)))
      (λ z h.
      let was : Contains old z = in_order-from total exact old z (removed-from (is_at (R n)) (in_order R old) z h) in
      in_order-has total exact new z (Contains-from_any (same_key total exact) z new
      (told z ∙ ap (λ b. cond b false (list_any (eq_by_cmp R z) old)) (removed-differs n (in_order R old) z up h) ∙ list_any-from_Contains (eq_by_cmp_equiv total) z old was)))
