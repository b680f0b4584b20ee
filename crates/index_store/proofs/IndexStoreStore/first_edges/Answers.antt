use Rattle.std.proofs.Common.{ap, ◌∙◌, subst, sym, map, length}
use Rattle.std.specs.Prelude.{◌<◌, All, List}
use Rattle.std.proofs.lemmas.Result.{IfOk-weaker}
use Rattle.graph_spec.specs.DataGraph.{DataGraph}
use Rattle.graph_spec.specs.declared.Edge.{Edge}
use Rattle.std.proofs.Common.{take}
use Rattle.std.proofs.lemmas.List.{take-map}
use Rattle.std.proofs.lemmas.List.Elements.{All-take}
use Rattle.edge_queries.specs.Listed.{lists-by_label}
use Rattle.index_store.specs.Indexed.{edge_at, edges_at}
use Rattle.index_store.proofs.IndexStoreStore.first_edges.Goals as goal

pub give_at-requires : goal.give_at-requires
give_at-requires c =
    let same = c.edges-edges.ensures.value ∙ ap (λ (G : DataGraph). G.edges) c.self.view_is in
    subst (λ (es : List Edge). All (λ i. i < length es) c.first.result.now) (sym same)
    (subst (All (λ i. i < length c.args.self.now.edges)) (sym c.first.ensures) (All-take (λ i. i < length c.args.self.now.edges) c.args.most c.edges_labelled.result.now c.edges_labelled.ensures.positions.fits))

pub returns : goal.returns
returns c =
    let same = c.edges-edges.ensures.value ∙ ap (λ (G : DataGraph). G.edges) c.self.view_is in
    let are = c.edges_labelled.ensures.positions in
    let ps = c.edges_labelled.result.now in
    let G = c.args.self.now in
    let found = ap (edges_at G.edges) c.first.ensures ∙ sym (take-map (edge_at G.edges) c.args.most ps) ∙ ap (take c.args.most) are.exact in
    IfOk-weaker c.give_at.result _ _
    (λ edges is. (
      _,
      lists-by_label G c.edges_labelled.ensures.well_formed _ are.order.lists c.args.label.now,
      is ∙ ap (λ (es : List Edge). map (λ (e : Edge). e) (edges_at es c.first.result.now)) same ∙ ap (map (λ (e : Edge). e)) found ∙ sym (take-map _ _ _),
    ))
    c.give_at.ensures
