use Rattle.std.proofs.Common.{ap, ◌∙◌, subst, sym, map, length}
use Rattle.std.specs.Prelude.{◌<◌, All, List}
use Rattle.std.proofs.lemmas.Result.{IfOk-weaker}
use Rattle.graph_spec.specs.DataGraph.{DataGraph, node}
use Rattle.graph_spec.specs.declared.Edge.{Edge}
use Rattle.std.proofs.Common.{take}
use Rattle.std.proofs.lemmas.List.{take-map}
use Rattle.std.proofs.lemmas.List.Elements.{All-take}
use Rattle.edge_queries.specs.Listed.{lists-incoming_by}
use Rattle.index_store.specs.Indexed.{edge_at, edges_at}
use Rattle.index_store.proofs.IndexStoreStore.first_incoming.Goals as goal

pub give_at-requires : goal.give_at-requires
give_at-requires c =
    let same = c.edges-edges.ensures.value ∙ ap (λ (G : DataGraph). G.edges) c.self.view_is in
    subst (λ (es : List Edge). All (λ i. i < length es) c.first.result.now) (sym same)
    (subst (All (λ i. i < length c.args.self.now.edges)) (sym c.first.ensures) (All-take (λ i. i < length c.args.self.now.edges) c.args.most c.edges_in.result.now c.edges_in.ensures.positions.fits))

pub returns : goal.returns
returns c =
    let same = c.edges-edges.ensures.value ∙ ap (λ (G : DataGraph). G.edges) c.self.view_is in
    let are = c.edges_in.ensures.positions in
    let ps = c.edges_in.result.now in
    let G = c.args.self.now in
    let found = ap (edges_at G.edges) c.first.ensures ∙ sym (take-map (edge_at G.edges) c.args.most ps) ∙ ap (take c.args.most) are.exact in
    IfOk-weaker c.give_at.result _ _
    (λ starts is. (
      _,
      lists-incoming_by G c.edges_in.ensures.well_formed _ are.order.lists c.args.to.now c.args.label.now,
      is ∙ ap (λ (es : List Edge). map (λ (e : Edge). node e.from) (edges_at es c.first.result.now)) same ∙ ap (map (λ (e : Edge). node e.from)) found ∙ sym (take-map _ _ _),
    ))
    c.give_at.ensures
