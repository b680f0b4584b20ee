use Rattle.std.proofs.Common.{ap, ◌∙◌, subst}
use Rattle.graph_spec.specs.DataGraph.{DataGraph, node, IsWellFormed}
use Rattle.std.proofs.lemmas.Result.{IfOk-weaker}
use Rattle.list_lookup.specs.Picked.{picked}
use Rattle.edge_queries.specs.Places.{at_collection}
use Rattle.edge_queries.specs.Listed.{lists-members, listed-is}
use Rattle.list_store.proofs.ListStoreStore.members.Goals as goal

pub returns : goal.returns
returns c =
    let same = c.member_pairs.ensures.value ∙ ap (λ (G : DataGraph). G.members) c.self.view_is in
    let well = subst IsWellFormed c.self.view_is c.member_pairs.ensures.well_formed in
    IfOk-weaker c.scan.result _ _ (λ found is. listed-is found.items _ (is ∙ ap (picked (at_collection c.args.collection.now) (λ m. node m.node)) same) (lists-members c.args.self.now well c.args.collection.now)) c.scan.ensures
