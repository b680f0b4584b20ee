use Rattle.std.proofs.Common.{List, sym, subst}
use Rattle.std.specs.Prelude.{Contains}
use Rattle.std.proofs.lemmas.List.Sorted.{Contains-permutation, IsPermutation-sym}
use Rattle.std.proofs.lemmas.Map.Keys.{IsDistinct-IsPermutation}
use Rattle.site_build.proofs.Sets.{strictly_sorted}
use Rattle.site_build.proofs.ascending.ascending.Goals as goal

pub returns : goal.returns
returns g c =
    let moved = c.sort.ensures.permutation in
    let same = c.in_ok-items.ensures.same in
    let flips = g.met.K.Eq.laws.symm in
    record {
      ascending = strictly_sorted g.met.K.Ord.total g.met.K.Ord.matches_eq _ c.in_ok-sort.ensures.sorted (IsDistinct-IsPermutation g.K.PartialEq.eq flips _ _ moved c.in_ok-items.ensures.distinct);
      sound = λ x h. subst (λ (ks : List g.row.K.Denot). Contains ks x) same (Contains-permutation _ _ x (IsPermutation-sym _ _ moved) h);
      complete = λ x h. Contains-permutation _ _ x moved (subst (λ (ks : List g.row.K.Denot). Contains ks x) (sym same) h);
    }
