use Rattle.std.proofs.Common.{arith, sym, subst}
use Rattle.graph_spec.specs.Orders.{edge_cmp}
use Rattle.graph_spec.specs.Steps.{IsCountOf, IsLabelled}
use Rattle.sd_graph.specs.Statement.{Building}
use Rattle.live_store.proofs.Questions.{labelled_counted}
use Rattle.live_store.proofs.answers.LiveStoreStore.edges_of.Goals as goal

pub left-requires-clause-within : goal.left-requires-clause-within
left-requires-clause-within c =
    let counted = labelled_counted c.self.inside.base c.self.inside.came c.self.inside.gone c.self.inside.nodes.keys _ c.self.invariant.layers
    c.args.label.now _ _ _ c.edges_of-base.ensures c.edges_of-gone.ensures c.edges_of-came.ensures in
    counted.0

pub left-requires-clause-fits : goal.left-requires-clause-fits
left-requires-clause-fits c =
    let counted = labelled_counted c.self.inside.base c.self.inside.came c.self.inside.gone c.self.inside.nodes.keys _ c.self.invariant.layers
    c.args.label.now _ _ _ c.edges_of-base.ensures c.edges_of-gone.ensures c.edges_of-came.ensures in
    let most = c.self.invariant.reported.edge_count in
    omega (arith, counted.2)

pub returns : goal.returns
returns c =
    let counted = labelled_counted c.self.inside.base c.self.inside.came c.self.inside.gone c.self.inside.nodes.keys _ c.self.invariant.layers
    c.args.label.now _ _ _ c.edges_of-base.ensures c.edges_of-gone.ensures c.edges_of-came.ensures in
    subst (λ (b : Building). IsCountOf edge_cmp (IsLabelled b.graph c.args.label.now) c.left.result) c.self.view_is
    (subst (IsCountOf edge_cmp _) (sym c.left.ensures) counted.1)
