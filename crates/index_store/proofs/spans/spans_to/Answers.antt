use Rattle.std.proofs.Common.{arith, sym, ◌∙◌, ◌+◌, ◌++◌, ap, subst, map}
use Rattle.std.proofs.lemmas.List.{length_push, length-map, get_or-map}
use Rattle.std.specs.Prelude.{slice_index_or}
use Rattle.edge_queries.specs.Places.{at_end}
use Rattle.edge_queries.specs.Listed.{placed-end}
use Rattle.index_store.specs.Indexed.{IsSpanOf, edges_at}
use Rattle.index_store.specs.Ranks.{item_at}
use Rattle.index_store.proofs.PositionLaws.{placed_at}
use Rattle.index_store.proofs.SpanLaws.{spans_more, span_at}
use Rattle.index_store.proofs.spans.spans_to.Goals as goal

pub span_near-span-requires : goal.span_near-span-requires
span_near-span-requires c = record {
  placed = placed_at (at_end c.value_in-to.result.now) c.args.edges.now c.args.by_end.now c.requires.order.fits
      (placed-end c.value_in-to.result.now (edges_at c.args.edges.now c.args.by_end.now) c.requires.order.lists.ascending);
  small = c.requires.small;
}

pub loop-place-preserved : goal.loop-place-preserved
loop-place-preserved c =
    let spans = c.loop-place.spans.items in
    let n = c.loop-place.place-index in
    let places = c.args.places.now in
    let all = c.args.nodes.now ++ map (λ e. e.to) c.args.edges.now in
    let edges = edges_at c.args.edges.now c.args.by_end.now in
    let span = c.span_near-span.result in
    let here = span_at (at_end c.value_in-to.result.now) c.args.edges.now c.args.by_end.now span c.requires.order.fits c.span_near-span.ensures in
    rw (c.in_ok-push.ensures.items) (
      length_push spans span ∙ ap (λ k. k + 1) c.loop-place.invariant.0,
      λ d k v s l. spans_more (λ j t. IsSpanOf (at_end (slice_index_or (map (item_at all d) places) j v)) edges t) spans span n c.loop-place.invariant.0 (λ j t m. c.loop-place.invariant.1 d j v t m)
          (subst (λ u. IsSpanOf (at_end u) edges span) (sym (get_or-map (item_at all d) places n 0 v c.loop-place-test.true ∙ c.value_in-to.ensures d)) here) k s l,
    )

pub returns : goal.returns
returns c = λ d. record {
  counted = omega (arith, c.loop-place.invariant.0, c.loop-place.auto.place-index-end, c.loop-place-test.false, length-map c.args.places.now (item_at (c.args.nodes.now ++ map (λ e. e.to) c.args.edges.now) d));
  each = λ k v s l. c.loop-place.invariant.1 d k v s (omega (arith, l, c.loop-place-test.false, length-map c.args.places.now (item_at (c.args.nodes.now ++ map (λ e. e.to) c.args.edges.now) d)));
}
