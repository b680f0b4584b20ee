use Rattle.std.proofs.Common.{ap, ◌∙◌, subst}
use Rattle.graph_spec.specs.DataGraph.{DataGraph, node, IsWellFormed}
use Rattle.std.proofs.Common.{length}
use Rattle.list_lookup.specs.Picked.{in_place}
use Rattle.edge_queries.specs.Places.{at_collection}
use Rattle.edge_queries.specs.Listed.{lists-members, counted}
use Rattle.list_store.proofs.ListStoreStore.members_of.Goals as goal

pub returns : goal.returns
returns c =
    let same = c.member_pairs.ensures.value ∙ ap (λ (G : DataGraph). G.members) c.self.view_is in
    let well = subst IsWellFormed c.self.view_is c.member_pairs.ensures.well_formed in
    counted (at_collection c.args.collection.now) (λ m. node m.node) c.args.self.now.members c.count.result (c.count.ensures ∙ ap (λ xs. length (in_place (at_collection c.args.collection.now) xs)) same) (lists-members c.args.self.now well c.args.collection.now)
