use Rattle.std.proofs.Common.{sym, ap, ◌∙◌, subst, take, drop}
use Rattle.std.specs.Prelude.{◌-◌, ℕ, List}
use Rattle.std.proofs.lemmas.List.{length-map}
use Rattle.graph_spec.specs.DataGraph.{DataGraph}
use Rattle.graph_spec.specs.declared.Edge.{Edge}
use Rattle.list_lookup.specs.Picked.{in_place, IsPlaced}
use Rattle.edge_queries.specs.Ordered.{by_end_cmp}
use Rattle.edge_queries.specs.Places.{at_end}
use Rattle.edge_queries.specs.Listed.{placed-end}
use Rattle.index_store.specs.Indexed.{edge_at, edges_at, place_at, IsAt, ArePicked}
use Rattle.index_store.proofs.PositionLaws.{placed_at}
use Rattle.index_store.proofs.SpanLaws.{picked_in_span, picked_in_place}
use Rattle.index_store.proofs.LookLaws.{to_span}
use Rattle.index_store.proofs.IndexStore.edges_to.Goals as goal

pub in_span-requires : goal.in_span-requires
in_span-requires c =
    let s = c.self.inside in
    let span = c.index.result.now in
    let is = to_span s.graph s.by_end.items s.by_label.items s.values.items s.labels.items s.collections.items s.from.items s.to.items s.of_label.items s.of_collection.items c.self.invariant.spans c.args.to.now c.in-Some.number span
    (subst (λ (vs : List ℕ). IsAt s.graph vs c.args.to.now c.in-Some.number) c.as_slice-values.ensures.value c.in-Some.ensures) c.index.ensures in
    (is.up, rw (c.as_slice.ensures.value, ← length-map s.by_end.items (edge_at s.graph.edges)) is.fits)

pub returns-in-Some-clause-positions : goal.returns-in-Some-clause-positions
returns-in-Some-clause-positions c =
    let s = c.self.inside in
    let span = c.index.result.now in
    let is = to_span s.graph s.by_end.items s.by_label.items s.values.items s.labels.items s.collections.items s.from.items s.to.items s.of_label.items s.of_collection.items c.self.invariant.spans c.args.to.now c.in-Some.number span
    (subst (λ (vs : List ℕ). IsAt s.graph vs c.args.to.now c.in-Some.number) c.as_slice-values.ensures.value c.in-Some.ensures) c.index.ensures in
    let found = picked_in_span by_end_cmp (at_end c.args.to.now) s.graph.edges s.by_end.items span c.self.invariant.by_end is in
    subst (λ (G : DataGraph). ArePicked by_end_cmp G.edges (at_end c.args.to.now) c.in_span.result.now) c.self.view_is
    (subst (ArePicked by_end_cmp s.graph.edges (at_end c.args.to.now)) (sym (c.in_span.ensures ∙ ap (λ (ps : List ℕ). take (span.end - span.start) (drop span.start ps)) c.as_slice.ensures.value)) found)

pub part-requires : goal.part-requires
part-requires c =
    let s = c.self.inside in
    let order = c.self.invariant.by_end in
    subst (λ (es : List Edge). IsPlaced (place_at (at_end c.args.to.now) es) c.as_slice-2.result.now) (sym c.edges-edges.ensures.value)
    (subst (IsPlaced (place_at (at_end c.args.to.now) s.graph.edges)) (sym c.as_slice-2.ensures.value)
    (placed_at (at_end c.args.to.now) s.graph.edges s.by_end.items order.fits (placed-end c.args.to.now (edges_at s.graph.edges s.by_end.items) order.lists.ascending)))

pub returns-clause-positions : goal.returns-clause-positions
returns-clause-positions c =
    let s = c.self.inside in
    subst (λ (G : DataGraph). ArePicked by_end_cmp G.edges (at_end c.args.to.now) c.part.result.now) c.self.view_is
    (subst (ArePicked by_end_cmp s.graph.edges (at_end c.args.to.now))
    (sym (c.part.ensures ∙ ap (λ (es : List Edge). in_place (place_at (at_end c.args.to.now) es) c.as_slice-2.result.now) c.edges-edges.ensures.value ∙ ap (in_place (place_at (at_end c.args.to.now) s.graph.edges)) c.as_slice-2.ensures.value))
    (picked_in_place by_end_cmp (at_end c.args.to.now) s.graph.edges s.by_end.items c.self.invariant.by_end))
