use Rattle.std.proofs.Common.{arith, sym, subst}
use Rattle.graph_spec.specs.Orders.{step_cmp}
use Rattle.graph_spec.specs.Steps.{IsCountOf, IsStepTo}
use Rattle.sd_graph.specs.Statement.{Building}
use Rattle.live_store.proofs.Questions.{to_counted}
use Rattle.live_store.proofs.answers.LiveStoreStore.degree_incoming.Goals as goal

pub left-requires-clause-within : goal.left-requires-clause-within
left-requires-clause-within c =
    let counted = to_counted c.self.inside.base c.self.inside.came c.self.inside.gone c.self.inside.nodes.keys _ c.self.invariant.layers
    c.args.to.now _ _ _ c.degree_incoming-base.ensures c.degree_incoming-gone.ensures c.degree_incoming-came.ensures in
    counted.0

pub left-requires-clause-fits : goal.left-requires-clause-fits
left-requires-clause-fits c =
    let counted = to_counted c.self.inside.base c.self.inside.came c.self.inside.gone c.self.inside.nodes.keys _ c.self.invariant.layers
    c.args.to.now _ _ _ c.degree_incoming-base.ensures c.degree_incoming-gone.ensures c.degree_incoming-came.ensures in
    let most = c.self.invariant.reported.edge_count in
    omega (arith, counted.2)

pub returns : goal.returns
returns c =
    let counted = to_counted c.self.inside.base c.self.inside.came c.self.inside.gone c.self.inside.nodes.keys _ c.self.invariant.layers
    c.args.to.now _ _ _ c.degree_incoming-base.ensures c.degree_incoming-gone.ensures c.degree_incoming-came.ensures in
    subst (λ (b : Building). IsCountOf step_cmp (IsStepTo b.graph c.args.to.now) c.left.result) c.self.view_is
    (subst (IsCountOf step_cmp _) (sym c.left.ensures) counted.1)
