use Rattle.std.proofs.Common.{ap, ◌∙◌, sym, map, take}
use Rattle.std.proofs.lemmas.List.{take-map}
use Rattle.std.proofs.lemmas.Result.{IfOk-weaker}
use Rattle.graph_spec.specs.DataGraph.{node}
use Rattle.graph_spec.specs.declared.Member.{Member}
use Rattle.edge_queries.specs.Listed.{lists-members}
use Rattle.index_store.proofs.IndexStoreStore.first_members.Goals as goal

pub returns : goal.returns
returns c =
    let found = c.first.ensures ∙ ap (take c.args.most) c.members_in.ensures.members in
    IfOk-weaker c.give_all.result _ _
    (λ nodes is. (_, lists-members c.args.self.now c.members_in.ensures.well_formed c.args.collection.now, is ∙ ap (map (λ (m : Member). node m.node)) found ∙ sym (take-map _ _ _)))
    c.give_all.ensures
