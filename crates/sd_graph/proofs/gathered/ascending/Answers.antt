-- `sort` only moves the items, and `dedup` of a sorted list keeps each once.
use Rattle.std.proofs.Common.{sym, ◌∙◌}
use Rattle.std.specs.Cmp.{Equal-is}
use Rattle.std.proofs.lemmas.List.Filters.{dedup_is}
use Rattle.std.proofs.lemmas.List.Kept.{IsStrictlySortedBy-dedup, Contains-dedup, Contains-from_dedup}
use Rattle.std.proofs.lemmas.List.Sorted.{Contains-permutation, IsPermutation-sym}
use Rattle.sd_graph.proofs.gathered.ascending.Goals as goal

pub returns : goal.returns
returns g c =
    let is = dedup_is _ _ _ c.dedup.ensures.filtered in
    let moved = c.sort.ensures.permutation in
    let ties = g.met.K.Ord.matches_eq in
    record {
      ascending = rw is (IsStrictlySortedBy-dedup g.met.K.Ord.total ties _ c.in_ok-sort.ensures.sorted);
      sound = λ x h. Contains-permutation _ _ x (IsPermutation-sym _ _ moved) (Contains-from_dedup _ _ x (rw is at h));
      complete = λ x h. rw is (Contains-dedup g.met.K.Eq.laws (λ x y e. g.met.K.ExactOrd.exact x y ((Equal-is _).0 (sym (ties x y) ∙ e))) _ x (Contains-permutation _ _ x moved h));
    }
