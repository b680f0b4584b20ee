use Rattle.std.proofs.Common.{sym, ◌∙◌, ◌+◌, ap, subst}
use Rattle.std.proofs.lemmas.List.{length_push, get_or_default}
use Rattle.std.specs.Prelude.{slice_index_or}
use Rattle.edge_queries.specs.Places.{at_start}
use Rattle.edge_queries.specs.Listed.{placed-start}
use Rattle.index_store.specs.Indexed.{IsSpanOf}
use Rattle.index_store.proofs.SpanLaws.{spans_more}
use Rattle.index_store.proofs.spans.spans_from.Goals as goal

pub span_near-span-requires : goal.span_near-span-requires
span_near-span-requires c = record { placed = placed-start c.node-item.result c.args.edges.now c.requires.ascending; small = c.requires.small }

pub loop-node-preserved : goal.loop-node-preserved
loop-node-preserved c =
    let spans = c.loop-node.spans.items in
    let n = c.loop-node.node-index in
    let nodes = c.args.nodes.now in
    let span = c.span_near-span.result in
    rw (c.in_ok-push.ensures.items) (
      length_push spans span ∙ ap (λ k. k + 1) c.loop-node.invariant.0,
      λ k v s l. spans_more (λ j t. IsSpanOf (at_start (slice_index_or nodes j v)) c.args.edges.now t) spans span n c.loop-node.invariant.0 (λ j t m. c.loop-node.invariant.1 j v t m)
          (subst (λ u. IsSpanOf (at_start u) c.args.edges.now span) (sym (get_or_default nodes n v c.node-item.result c.loop-node-test.true ∙ sym c.node-item.is)) c.span_near-span.ensures) k s l,
    )
