-- `sort` only moves the items, and `dedup` of a sorted list keeps one of those that tie.
use Rattle.std.proofs.Common.{sym, ◌∙◌}
use Rattle.std.specs.Cmp.{Equal-is}
use Rattle.std.proofs.lemmas.List.Filters.{dedup_is}
use Rattle.std.proofs.lemmas.List.Kept.{IsStrictlySortedBy-dedup, Any-dedup, Contains-from_dedup}
use Rattle.std.proofs.lemmas.List.Sorted.{Contains-permutation, IsPermutation-sym}
use Rattle.index_store.proofs.ranks.merge_sort.Goals as goal

pub returns : goal.returns
returns g c =
    let is = dedup_is _ _ _ c.dedup.ensures.filtered in
    let moved = c.sort.ensures.permutation in
    let ties = g.met.T.Ord.matches_eq in
    record {
      ascending = rw is (IsStrictlySortedBy-dedup g.met.T.Ord.total ties _ c.in_ok-sort.ensures.sorted);
      sound = λ x h. Contains-permutation _ _ x (IsPermutation-sym _ _ moved) (Contains-from_dedup _ _ x (rw is at h));
      complete = λ x h.
          let kept = Any-dedup g.met.T.Eq.laws _ x (Contains-permutation _ _ x moved h) in
          (kept.1, rw is (kept.0, kept.2, kept.3), (Equal-is _).0 (sym (ties x kept.1) ∙ kept.4));
    }
