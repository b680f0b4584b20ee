-- An ascending list, put together from its elements in order.
use Rattle.std.proofs.Common.{◌≡◌, refl, sym, ap, subst, ◌∙◌, List, [], ◌∷◌, ◌++◌}
use Rattle.std.specs.declared.cmp.Ordering.{Ordering}
use Rattle.std.specs.Ordering.{ordering_reverse, match_ordering}
use Rattle.std.specs.Cmp.{IsTotalOrder}
use Rattle.std.specs.BTreeSet.{insert_key}
use Rattle.std.specs.List.Sorted.{IsStrictlySortedBy}
use Rattle.std.proofs.lemmas.List.Elements.{Contains-append_right}
use Rattle.sd_value.specs.Members.{Contains-here}
use Rattle.sd_value.specs.AscendingLaws.{head_below, tail_ascends}

module _ {X : Type 0} {R : X → X → Ordering} (total : IsTotalOrder R) where
  inserted_last : (xs : List X) (x : X) (left : List X) → IsStrictlySortedBy R (xs ++ (x ∷ left)) → insert_key R xs x ++ left ≡ xs ++ (x ∷ left)
  inserted_last [] x left up = refl
  inserted_last (y ∷ xs) x left up =
      let below = head_below total y (xs ++ (x ∷ left)) up x (Contains-append_right xs (x ∷ left) x (Contains-here x left)) in
      ap (λ r. match_ordering r (x ∷ y ∷ xs) (y ∷ xs) (y ∷ insert_key R xs x) ++ left) (total.antisymm x y ∙ ap ordering_reverse below)
      ∙ ap (λ ys. y ∷ ys) (inserted_last xs x left (tail_ascends total y (xs ++ (x ∷ left)) up))

  pub copied_more : (xs ys : List X) (x y : X) (rest left all : List X) → IsStrictlySortedBy R all → xs ++ rest ≡ all → rest ≡ x ∷ left → y ≡ x → ys ≡ insert_key R xs y → ys ++ left ≡ all
  copied_more xs ys x y rest left all up whole front same is =
      let e : xs ++ (x ∷ left) ≡ all = ap (λ zs. xs ++ zs) (sym front) ∙ whole in
      ap (λ zs. zs ++ left) (is ∙ ap (insert_key R xs) same) ∙ inserted_last xs x left (subst (IsStrictlySortedBy R) (sym e) up) ∙ e
