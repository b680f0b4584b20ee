use Rattle.std.proofs.Common.{ap, ◌∙◌, subst, sym, map, length}
use Rattle.std.specs.Prelude.{◌<◌, All, List}
use Rattle.std.proofs.lemmas.Result.{IfOk-weaker}
use Rattle.graph_spec.specs.DataGraph.{DataGraph}
use Rattle.graph_spec.specs.declared.Edge.{Edge}
use Rattle.edge_queries.specs.Listed.{lists-by_label, listed-is}
use Rattle.index_store.specs.Indexed.{edges_at}
use Rattle.index_store.proofs.IndexStoreStore.edges_by.Goals as goal

pub give_at-requires : goal.give_at-requires
give_at-requires c =
    let same = c.edges-edges.ensures.value ∙ ap (λ (G : DataGraph). G.edges) c.self.view_is in
    subst (λ (es : List Edge). All (λ i. i < length es) c.edges_labelled.result.now) (sym same) c.edges_labelled.ensures.positions.fits

pub returns : goal.returns
returns c =
    let same = c.edges-edges.ensures.value ∙ ap (λ (G : DataGraph). G.edges) c.self.view_is in
    let are = c.edges_labelled.ensures.positions in
    IfOk-weaker c.give_at.result _ _
    (λ found is. listed-is found.items _ (is ∙ ap (λ (es : List Edge). map (λ (e : Edge). e) (edges_at es c.edges_labelled.result.now)) same ∙ ap (map (λ (e : Edge). e)) are.exact)
    (lists-by_label c.args.self.now c.edges_labelled.ensures.well_formed _ are.order.lists c.args.label.now))
    c.give_at.ensures
