-- `sort_unstable` only moves the numbers, and `dedup` of a sorted list keeps each once.
use Rattle.std.proofs.Common.{◌≡◌, ℕ, eqb, arith}
use Rattle.std.proofs.lemmas.Bool.Decides.{nat_tests}
use Rattle.std.specs.Ordering.{nat_cmp, eq_by_cmp}
use Rattle.std.proofs.lemmas.Cmp.{nat_cmp_total}
use Rattle.std.proofs.lemmas.List.Filters.{dedup_is}
use Rattle.std.proofs.lemmas.List.Kept.{IsStrictlySortedBy-dedup, Contains-dedup_nat, Contains-from_dedup}
use Rattle.std.proofs.lemmas.List.Sorted.{Contains-permutation, IsPermutation-sym}
use Rattle.index_store.proofs.ranks.sort_numbers.Goals as goal

level : (x y : ℕ) → eqb x y ≡ eq_by_cmp nat_cmp x y
level x y = grind (arith, nat_tests)

pub returns-clause-sorted : goal.returns-clause-sorted
returns-clause-sorted c =
    let is = dedup_is _ _ _ c.dedup.ensures.filtered in
    let moved = c.sort_unstable.ensures.permutation in
    record {
      ascending = rw is (IsStrictlySortedBy-dedup nat_cmp_total (λ x y. level x y) _ c.sort_unstable.ensures.sorted);
      sound = λ x h. Contains-permutation _ _ x (IsPermutation-sym _ _ moved) (Contains-from_dedup _ _ x (rw is at h));
      complete = λ x h. rw is (Contains-dedup_nat _ x (Contains-permutation _ _ x moved h));
    }
