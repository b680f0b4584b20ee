use Rattle.std.proofs.Common.{ap, ◌∙◌, sym, map, take}
use Rattle.std.proofs.lemmas.List.{take-map}
use Rattle.std.proofs.lemmas.Result.{IfOk-weaker}
use Rattle.graph_spec.specs.declared.Edge.{Edge}
use Rattle.edge_queries.specs.Listed.{lists-out}
use Rattle.index_store.proofs.IndexStoreStore.first_out.Goals as goal

pub returns : goal.returns
returns c =
    let found = c.first.ensures ∙ ap (take c.args.most) c.edges_out.ensures.edges in
    IfOk-weaker c.give_all.result _ _
    (λ ends is. (_, lists-out c.args.self.now c.edges_out.ensures.well_formed c.args.from.now c.args.label.now, is ∙ ap (map (λ (e : Edge). e.to)) found ∙ sym (take-map _ _ _)))
    c.give_all.ensures
