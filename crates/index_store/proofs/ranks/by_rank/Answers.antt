use Rattle.std.proofs.Common.{arith, ap, ◌∙◌, map, subst, sym}
use Rattle.std.specs.Prelude.{◌<◌, ◌%◌, length}
use Rattle.std.proofs.lemmas.List.{length-map}
use Rattle.std.proofs.lemmas.Result.{IfOk-weaker}
use Rattle.sd_value.specs.Ascending.{ListsExactly}
use Rattle.index_store.specs.Ranks.{rank_cmp}
use Rattle.index_store.proofs.JoinedLaws.{joined_in_order}
use Rattle.index_store.proofs.ranks.by_rank.Goals as goal

pub returns-clause-order : goal.returns-clause-order
returns-clause-order c =
    IfOk-weaker c.joined_places.result _ _
    (λ order is. subst (ListsExactly (rank_cmp c.args.ranks.now) (λ i. i < length c.args.ranks.now)) (sym (is ∙ ap (map (λ j. j % 4294967296)) c.as_slice.ensures.value))
    (joined_in_order c.args.ranks.now _ _ c.requires c.in_ok-joined.ensures.joined c.sort_numbers.ensures.sorted))
    c.joined_places.ensures

pub returns-clause-short : goal.returns-clause-short
returns-clause-short c =
    IfOk-weaker c.joined_places.result _ _
    (λ order is. omega (arith, ap length is, length-map c.as_slice.result.now (λ j. j % 4294967296), ap length c.as_slice.ensures.value, c.sort_numbers.ensures.short, c.in_ok-joined.ensures.long))
    c.joined_places.ensures
