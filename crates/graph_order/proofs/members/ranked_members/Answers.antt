use Rattle.std.proofs.Common.{List, refl, subst}
use Rattle.std.specs.Prelude.{Contains}
use Rattle.sd_value.specs.Members.{among_at}
use Rattle.graph_spec.specs.DataGraph.{DataGraph}
use Rattle.graph_spec.specs.declared.Member.{Member}
use Rattle.graph_order.proofs.members.ranked_members.Goals as goal

pub ranked_member-requires-clause-declared : goal.ranked_member-requires-clause-declared
ranked_member-requires-clause-declared c =
    let m = c.member-item.result in
    let ms = c.member_pairs-member-items.result.now in
    let within : Contains ms m = among_at ms c.loop-member.member-index m m c.loop-member-test.true c.member-item.is refl in
    subst (λ (G : DataGraph). Contains G.nodes m.node) c.graph.ensures
    (c.member_pairs-member-items.ensures.well_formed.members_are_nodes m
    (subst (λ (ns : List Member). Contains ns m) c.member_pairs-member-items.ensures.value within))
