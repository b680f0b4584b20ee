use Rattle.std.proofs.Common.{arith, sym, subst}
use Rattle.sd_value.specs.Order.{value_cmp}
use Rattle.graph_spec.specs.Steps.{IsCountOf, IsMemberValue}
use Rattle.sd_graph.specs.Statement.{Building}
use Rattle.live_store.proofs.Questions.{member_counted}
use Rattle.live_store.proofs.answers.LiveStoreStore.members_of.Goals as goal

pub left-requires-clause-within : goal.left-requires-clause-within
left-requires-clause-within c =
    let counted = member_counted c.self.inside.base c.self.inside.came c.self.inside.gone c.self.inside.nodes.keys _ c.self.invariant.layers
    c.args.collection.now _ _ _ c.members_of-base.ensures c.members_of-gone.ensures c.members_of-came.ensures in
    counted.0

pub left-requires-clause-fits : goal.left-requires-clause-fits
left-requires-clause-fits c =
    let counted = member_counted c.self.inside.base c.self.inside.came c.self.inside.gone c.self.inside.nodes.keys _ c.self.invariant.layers
    c.args.collection.now _ _ _ c.members_of-base.ensures c.members_of-gone.ensures c.members_of-came.ensures in
    let most = c.self.invariant.reported.member_count in
    omega (arith, counted.2)

pub returns : goal.returns
returns c =
    let counted = member_counted c.self.inside.base c.self.inside.came c.self.inside.gone c.self.inside.nodes.keys _ c.self.invariant.layers
    c.args.collection.now _ _ _ c.members_of-base.ensures c.members_of-gone.ensures c.members_of-came.ensures in
    subst (λ (b : Building). IsCountOf value_cmp (IsMemberValue b.graph c.args.collection.now) c.left.result) c.self.view_is
    (subst (IsCountOf value_cmp _) (sym c.left.ensures) counted.1)
