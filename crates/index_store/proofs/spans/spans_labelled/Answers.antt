use Rattle.std.proofs.Common.{sym, ◌∙◌, ◌+◌, ap, subst}
use Rattle.std.proofs.lemmas.List.{length_push, get_or_default}
use Rattle.std.specs.Prelude.{slice_index_or}
use Rattle.edge_queries.specs.Places.{at_label}
use Rattle.edge_queries.specs.Listed.{placed-label}
use Rattle.index_store.specs.Indexed.{IsSpanOf, edges_at}
use Rattle.index_store.proofs.PositionLaws.{placed_at}
use Rattle.index_store.proofs.SpanLaws.{spans_more, span_at}
use Rattle.index_store.proofs.spans.spans_labelled.Goals as goal

pub span_near-span-requires : goal.span_near-span-requires
span_near-span-requires c = record {
  placed = placed_at (at_label c.label-item.result) c.args.edges.now c.args.by_label.now c.requires.order.fits
      (placed-label c.label-item.result (edges_at c.args.edges.now c.args.by_label.now) c.requires.order.lists.ascending);
  small = c.requires.small;
}

pub loop-label-preserved : goal.loop-label-preserved
loop-label-preserved c =
    let spans = c.loop-label.spans.items in
    let n = c.loop-label.label-index in
    let keys = c.args.labels.now in
    let span = c.span_near-span.result in
    let here = span_at (at_label c.label-item.result) c.args.edges.now c.args.by_label.now span c.requires.order.fits c.span_near-span.ensures in
    rw (c.in_ok-push.ensures.items) (
      length_push spans span ∙ ap (λ k. k + 1) c.loop-label.invariant.0,
      λ i k s l. spans_more (λ j t. IsSpanOf (at_label (slice_index_or keys j k)) (edges_at c.args.edges.now c.args.by_label.now) t) spans span n c.loop-label.invariant.0 (λ j t m. c.loop-label.invariant.1 j k t m)
          (subst (λ u. IsSpanOf (at_label u) (edges_at c.args.edges.now c.args.by_label.now) span) (sym (get_or_default keys n k c.label-item.result c.loop-label-test.true ∙ sym c.label-item.is)) here) i s l,
    )
