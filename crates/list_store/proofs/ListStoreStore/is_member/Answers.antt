use Rattle.std.proofs.Common.{ap, ◌∙◌, subst, sym}
use Rattle.graph_spec.specs.DataGraph.{DataGraph}
use Rattle.list_lookup.specs.Picked.{HasOne}
use Rattle.edge_queries.specs.Places.{at_member}
use Rattle.edge_queries.specs.Listed.{member_found}
use Rattle.list_store.proofs.ListStoreStore.is_member.Goals as goal

pub returns : goal.returns
returns c =
    let same = c.member_pairs.ensures.value ∙ ap (λ (G : DataGraph). G.members) c.self.view_is in
    let found = member_found c.args.self.now c.args.collection.now c.args.value.now in
    (λ yes. found.0 (subst (HasOne (at_member c.args.collection.now c.args.value.now)) same (c.any.ensures.0 yes)), λ has. c.any.ensures.1 (subst (HasOne (at_member c.args.collection.now c.args.value.now)) (sym same) (found.1 has)))
