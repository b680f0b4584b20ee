use Rattle.std.proofs.Common.{ap, ◌∙◌, map}
use Rattle.std.proofs.lemmas.Result.{IfOk-weaker}
use Rattle.graph_spec.specs.declared.Edge.{Edge}
use Rattle.edge_queries.specs.Listed.{lists-out, listed-is}
use Rattle.index_store.proofs.IndexStoreStore.out.Goals as goal

pub returns : goal.returns
returns c =
    IfOk-weaker c.give_all.result _ _
    (λ found is. listed-is found.items _ (is ∙ ap (map (λ (e : Edge). e.to)) c.edges_out.ensures.edges) (lists-out c.args.self.now c.edges_out.ensures.well_formed c.args.from.now c.args.label.now))
    c.give_all.ensures
