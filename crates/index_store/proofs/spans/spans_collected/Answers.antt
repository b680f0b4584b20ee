use Rattle.std.proofs.Common.{sym, ◌∙◌, ◌+◌, ap, subst}
use Rattle.std.proofs.lemmas.List.{length_push, get_or_default}
use Rattle.std.specs.Prelude.{slice_index_or}
use Rattle.edge_queries.specs.Places.{at_collection}
use Rattle.edge_queries.specs.Listed.{placed-collection}
use Rattle.index_store.specs.Indexed.{IsSpanOf}
use Rattle.index_store.proofs.SpanLaws.{spans_more}
use Rattle.index_store.proofs.spans.spans_collected.Goals as goal

pub span_near-span-requires : goal.span_near-span-requires
span_near-span-requires c = record { placed = placed-collection c.collection-item.result c.args.members.now c.requires.ascending; small = c.requires.small }

pub loop-collection-preserved : goal.loop-collection-preserved
loop-collection-preserved c =
    let spans = c.loop-collection.spans.items in
    let n = c.loop-collection.collection-index in
    let keys = c.args.collections.now in
    let span = c.span_near-span.result in
    let here = c.span_near-span.ensures in
    rw (c.in_ok-push.ensures.items) (
      length_push spans span ∙ ap (λ k. k + 1) c.loop-collection.invariant.0,
      λ i k s l. spans_more (λ j t. IsSpanOf (at_collection (slice_index_or keys j k)) (c.args.members.now) t) spans span n c.loop-collection.invariant.0 (λ j t m. c.loop-collection.invariant.1 j k t m)
          (subst (λ u. IsSpanOf (at_collection u) (c.args.members.now) span) (sym (get_or_default keys n k c.collection-item.result c.loop-collection-test.true ∙ sym c.collection-item.is)) here) i s l,
    )
