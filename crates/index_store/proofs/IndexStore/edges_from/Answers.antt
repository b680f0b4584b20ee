use Rattle.std.proofs.Common.{◌≡◌, sym, subst, length}
use Rattle.std.specs.Prelude.{◌≤◌, ◌<◌, ℕ, List, slice_index, slice_index_or}
use Rattle.std.specs.List.Sorted.{IsStrictlySortedBy}
use Rattle.graph_spec.specs.Orders.{edge_cmp}
use Rattle.graph_spec.specs.declared.Edge.{Edge}
use Rattle.edge_queries.specs.Places.{at_start}
use Rattle.edge_queries.specs.Listed.{placed-start}
use Rattle.index_store.specs.declared.spans.Span.{Span}
use Rattle.index_store.specs.Indexed.{IsAt, IsSpanOf}
use Rattle.index_store.proofs.LookLaws.{from_span}
use Rattle.index_store.proofs.IndexStore.edges_from.Goals as goal

pub in_span-requires : goal.in_span-requires
in_span-requires c =
    let s = c.self.inside in
    let values = c.as_slice-values.ensures.value in
    let spans = c.as_slice-spans.ensures.value in
    let none : Span = record { start = 0; end = 0 } in
    let span = slice_index_or c.as_slice-spans.result.now (slice_index c.as_slice-values.result.now c.in-Some.number) none in
    let same : slice_index_or s.from.items (slice_index s.values.items c.in-Some.number) none ≡ span = λ i. slice_index_or (sym spans i) (slice_index (sym values i) c.in-Some.number) none in
    let is = subst (IsSpanOf (at_start c.args.from.now) s.graph.edges) same
    (from_span s.graph s.by_end.items s.by_label.items s.values.items s.labels.items s.collections.items s.from.items s.to.items s.of_label.items s.of_collection.items c.self.invariant.spans c.args.from.now c.in-Some.number none
    (subst (λ (vs : List ℕ). IsAt s.graph vs c.args.from.now c.in-Some.number) values c.in-Some.ensures)
    (subst (λ (vs : List ℕ). slice_index vs c.in-Some.number < length s.from.items) values
    (subst (λ (ss : List Span). slice_index c.as_slice-values.result.now c.in-Some.number < length ss) spans c.if-place-spans.true))) in
    (is.up, subst (λ (es : List Edge). span.end ≤ length es) (sym c.edges-edges.ensures.value) is.fits)

pub part-requires : goal.part-requires
part-requires c = placed-start c.args.from.now c.edges-edges.result.now (subst (IsStrictlySortedBy edge_cmp) (sym c.edges-edges.ensures.value) c.edges-edges.ensures.well_formed.edges_ascend)
