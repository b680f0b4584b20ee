use Rattle.std.proofs.Common.{ap, ◌∙◌, sym, subst, List}
use Rattle.list_lookup.specs.Picked.{in_place, IsPlaced}
use Rattle.edge_queries.specs.Ordered.{by_end_cmp}
use Rattle.edge_queries.specs.Places.{at_label, at_end_label}
use Rattle.graph_spec.specs.DataGraph.{DataGraph}
use Rattle.graph_spec.specs.declared.Edge.{Edge}
use Rattle.index_store.specs.Indexed.{place_at, ArePicked}
use Rattle.index_store.proofs.SpanLaws.{placed_at_label, picked_by_label}
use Rattle.index_store.proofs.IndexStore.edges_in.Goals as goal

pub part-requires : goal.part-requires
part-requires c =
    let same = c.edges-edges.ensures.value ∙ ap (λ (G : DataGraph). G.edges) c.self.view_is in
    subst (λ (es : List Edge). IsPlaced (place_at (at_label c.args.label.now) es) c.edges_to.result.now) (sym same)
    (placed_at_label c.args.to.now c.args.label.now c.args.self.now.edges c.edges_to.result.now c.edges_to.ensures.positions)

pub returns-clause-positions : goal.returns-clause-positions
returns-clause-positions c =
    let same = c.edges-edges.ensures.value ∙ ap (λ (G : DataGraph). G.edges) c.self.view_is in
    subst (ArePicked by_end_cmp c.args.self.now.edges (at_end_label c.args.to.now c.args.label.now))
    (sym (c.part.ensures ∙ ap (λ (es : List Edge). in_place (place_at (at_label c.args.label.now) es) c.edges_to.result.now) same))
    (picked_by_label c.args.to.now c.args.label.now c.args.self.now.edges c.edges_to.result.now c.edges_to.ensures.positions)
