-- Of two lists of which the first ascends and is in the second, the first is not longer.
use Rattle.std.proofs.Common.{◌≡◌, ◌≤◌, true, List, length}
use Rattle.std.specs.Prelude.{Contains}
use Rattle.std.specs.declared.cmp.Ordering.{Ordering}
use Rattle.std.specs.Ordering.{eq_by_cmp}
use Rattle.std.specs.Cmp.{IsTotalOrder, Equal-is, eq_by_cmp_equiv}
use Rattle.std.specs.FinMap.{IsAntisymmetric}
use Rattle.std.specs.List.Sorted.{IsStrictlySortedBy}
use Rattle.std.proofs.lemmas.Map.Keys.{IsDistinct-from_sorted}
use Rattle.std.proofs.lemmas.Map.Made.{length-le_from_is_member}
use Rattle.std.proofs.lemmas.Map.Views.{Contains-from_any, list_any-from_Contains}

pub length_le : {X : Type 0} (R : X → X → Ordering) → IsTotalOrder R → IsAntisymmetric R → (xs ys : List X)
    → IsStrictlySortedBy R xs → ((x : X) → Contains xs x → Contains ys x) → length xs ≤ length ys
length_le {X} R total exact xs ys up within =
    let same : (x y : X) → eq_by_cmp R x y ≡ true → x ≡ y = λ x y h. exact x y ((Equal-is (R x y)).0 h) in
    length-le_from_is_member (eq_by_cmp_equiv total) xs ys (IsDistinct-from_sorted R xs up)
    (λ x h. list_any-from_Contains (eq_by_cmp_equiv total) x ys
    (within x (Contains-from_any {eq = eq_by_cmp R} same x xs h)))
