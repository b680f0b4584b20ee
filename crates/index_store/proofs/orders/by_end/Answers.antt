use Rattle.std.proofs.Common.{arith, ap, sym, ◌∙◌, subst, map, length, ℕ, List}
use Rattle.std.specs.Prelude.{◌<◌, All, slice_index}
use Rattle.std.proofs.lemmas.List.{length-map}
use Rattle.std.proofs.lemmas.Result.{IfOk-weaker}
use Rattle.sd_value.specs.Ascending.{ListsExactly}
use Rattle.edge_queries.specs.Ordered.{by_end_cmp}
use Rattle.index_store.specs.Indexed.{IsOrder}
use Rattle.index_store.specs.Ranks.{rank_cmp}
use Rattle.index_store.proofs.RankLaws.{All-from_contained, end_order}
use Rattle.index_store.proofs.orders.by_end.Goals as goal

pub at_places-requires-2 : goal.at_places-requires-2
at_places-requires-2 c =
    let long = ap length (c.as_slice.ensures.value ∙ c.in_ok-ends.ensures) ∙ length-map c.args.by_label.now (slice_index c.args.ranks.now) in
    subst (All (λ k. k < length c.args.by_label.now)) (sym c.as_slice-2.ensures.value)
    (All-from_contained (λ k. k < length c.args.by_label.now) c.in_ok-places.places.items (λ k h. omega (arith, c.in_ok-places.ensures.order.sound k h, long)))

pub returns-clause-order : goal.returns-clause-order
returns-clause-order c =
    let ranks_is = c.as_slice.ensures.value ∙ c.in_ok-ends.ensures in
    let all = subst (λ (ranks : List ℕ). ListsExactly (rank_cmp ranks) (λ k. k < length ranks) c.in_ok-places.places.items) ranks_is c.in_ok-places.ensures.order in
    IfOk-weaker c.at_places-2.result _ _
    (λ order is es by_label are. subst (IsOrder by_end_cmp es) (sym (is ∙ ap (map (slice_index c.args.by_label.now)) c.as_slice-2.ensures.value))
    (end_order es c.args.by_label.now c.args.ranks.now c.in_ok-places.places.items by_label are all))
    c.at_places-2.ensures

pub returns-clause-short : goal.returns-clause-short
returns-clause-short c =
    let long = ap length (c.as_slice.ensures.value ∙ c.in_ok-ends.ensures) ∙ length-map c.args.by_label.now (slice_index c.args.ranks.now) in
    IfOk-weaker c.at_places-2.result _ _
    (λ order is. omega (arith, ap length is, length-map c.as_slice-2.result.now (slice_index c.args.by_label.now), ap length c.as_slice-2.ensures.value, c.in_ok-places.ensures.short, long))
    c.at_places-2.ensures
