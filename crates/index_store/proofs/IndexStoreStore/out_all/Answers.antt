use Rattle.std.proofs.Common.{ap, ◌∙◌, map}
use Rattle.std.proofs.lemmas.Result.{IfOk-weaker}
use Rattle.edge_queries.specs.Places.{step_from}
use Rattle.edge_queries.specs.Listed.{lists-out_all, listed-is}
use Rattle.index_store.proofs.IndexStoreStore.out_all.Goals as goal

pub returns : goal.returns
returns c =
    IfOk-weaker c.give_all.result _ _
    (λ found is. listed-is found.items _ (is ∙ ap (map step_from) c.edges_from.ensures.edges) (lists-out_all c.args.self.now c.edges_from.ensures.well_formed c.args.from.now))
    c.give_all.ensures
