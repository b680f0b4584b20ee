use Rattle.std.proofs.Common.{◌≡◌, sym, ap, ◌∙◌, subst, length, take, drop}
use Rattle.std.specs.Prelude.{◌<◌, ◌-◌, ℕ, List, HoldsAt}
use Rattle.std.specs.declared.cmp.Ordering.TheVariants.{Equal}
use Rattle.std.proofs.lemmas.List.{length-map}
use Rattle.sd_value.specs.Order.{bytes_cmp}
use Rattle.graph_spec.specs.DataGraph.{DataGraph, Name}
use Rattle.graph_spec.specs.declared.Edge.{Edge}
use Rattle.list_lookup.specs.Picked.{in_place, IsPlaced}
use Rattle.edge_queries.specs.Ordered.{by_label_cmp}
use Rattle.edge_queries.specs.Places.{at_label}
use Rattle.edge_queries.specs.Listed.{placed-label}
use Rattle.index_store.specs.Indexed.{edge_at, edges_at, place_at, ArePicked}
use Rattle.index_store.proofs.PositionLaws.{placed_at}
use Rattle.index_store.proofs.SpanLaws.{picked_in_span, picked_in_place}
use Rattle.index_store.proofs.LookLaws.{label_span}
use Rattle.index_store.proofs.IndexStore.edges_labelled.Goals as goal

pub in_span-requires : goal.in_span-requires
in_span-requires c =
    let s = c.self.inside in
    let span = c.index.result.now in
    let is = label_span s.graph s.by_end.items s.by_label.items s.values.items s.labels.items s.collections.items s.from.items s.to.items s.of_label.items s.of_collection.items c.self.invariant.spans c.args.label.now c.in-Ok.number span
    (subst (λ (names : List Name). c.in-Ok.number < length names) c.deref.ensures.value c.in-Ok.ensures.bound)
    (subst (λ (names : List Name). HoldsAt (λ n. bytes_cmp n c.args.label.now ≡ Equal) names c.in-Ok.number) c.deref.ensures.value c.in-Ok.ensures.ok) c.index.ensures in
    (is.up, rw (c.as_slice.ensures.value, ← length-map s.by_label.items (edge_at s.graph.edges)) is.fits)

pub returns-in-Ok-clause-positions : goal.returns-in-Ok-clause-positions
returns-in-Ok-clause-positions c =
    let s = c.self.inside in
    let span = c.index.result.now in
    let is = label_span s.graph s.by_end.items s.by_label.items s.values.items s.labels.items s.collections.items s.from.items s.to.items s.of_label.items s.of_collection.items c.self.invariant.spans c.args.label.now c.in-Ok.number span
    (subst (λ (names : List Name). c.in-Ok.number < length names) c.deref.ensures.value c.in-Ok.ensures.bound)
    (subst (λ (names : List Name). HoldsAt (λ n. bytes_cmp n c.args.label.now ≡ Equal) names c.in-Ok.number) c.deref.ensures.value c.in-Ok.ensures.ok) c.index.ensures in
    let found = picked_in_span by_label_cmp (at_label c.args.label.now) s.graph.edges s.by_label.items span c.self.invariant.by_label is in
    subst (λ (G : DataGraph). ArePicked by_label_cmp G.edges (at_label c.args.label.now) c.in_span.result.now) c.self.view_is
    (subst (ArePicked by_label_cmp s.graph.edges (at_label c.args.label.now)) (sym (c.in_span.ensures ∙ ap (λ (ps : List ℕ). take (span.end - span.start) (drop span.start ps)) c.as_slice.ensures.value)) found)

pub part-requires : goal.part-requires
part-requires c =
    let s = c.self.inside in
    let order = c.self.invariant.by_label in
    subst (λ (es : List Edge). IsPlaced (place_at (at_label c.args.label.now) es) c.as_slice-2.result.now) (sym c.edges-edges.ensures.value)
    (subst (IsPlaced (place_at (at_label c.args.label.now) s.graph.edges)) (sym c.as_slice-2.ensures.value)
    (placed_at (at_label c.args.label.now) s.graph.edges s.by_label.items order.fits (placed-label c.args.label.now (edges_at s.graph.edges s.by_label.items) order.lists.ascending)))

pub returns-clause-positions : goal.returns-clause-positions
returns-clause-positions c =
    let s = c.self.inside in
    subst (λ (G : DataGraph). ArePicked by_label_cmp G.edges (at_label c.args.label.now) c.part.result.now) c.self.view_is
    (subst (ArePicked by_label_cmp s.graph.edges (at_label c.args.label.now))
    (sym (c.part.ensures ∙ ap (λ (es : List Edge). in_place (place_at (at_label c.args.label.now) es) c.as_slice-2.result.now) c.edges-edges.ensures.value ∙ ap (in_place (place_at (at_label c.args.label.now) s.graph.edges)) c.as_slice-2.ensures.value))
    (picked_in_place by_label_cmp (at_label c.args.label.now) s.graph.edges s.by_label.items c.self.invariant.by_label))
