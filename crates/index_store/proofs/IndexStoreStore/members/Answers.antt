use Rattle.std.proofs.Common.{ap, ◌∙◌, map}
use Rattle.std.proofs.lemmas.Result.{IfOk-weaker}
use Rattle.graph_spec.specs.DataGraph.{node}
use Rattle.graph_spec.specs.declared.Member.{Member}
use Rattle.edge_queries.specs.Listed.{lists-members, listed-is}
use Rattle.index_store.proofs.IndexStoreStore.members.Goals as goal

pub returns : goal.returns
returns c =
    IfOk-weaker c.give_all.result _ _
    (λ found is. listed-is found.items _ (is ∙ ap (map (λ (m : Member). node m.node)) c.members_in.ensures.members) (lists-members c.args.self.now c.members_in.ensures.well_formed c.args.collection.now))
    c.give_all.ensures
