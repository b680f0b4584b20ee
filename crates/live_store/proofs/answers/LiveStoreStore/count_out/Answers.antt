use Rattle.std.proofs.Common.{arith, sym, subst}
use Rattle.sd_value.specs.Order.{value_cmp}
use Rattle.graph_spec.specs.DataGraph.{HasEdge}
use Rattle.graph_spec.specs.Steps.{IsCountOf}
use Rattle.sd_graph.specs.Statement.{Building}
use Rattle.live_store.proofs.Questions.{out_counted}
use Rattle.live_store.proofs.answers.LiveStoreStore.count_out.Goals as goal

pub left-requires-clause-within : goal.left-requires-clause-within
left-requires-clause-within c =
    let counted = out_counted c.self.inside.base c.self.inside.came c.self.inside.gone c.self.inside.nodes.keys _ c.self.invariant.layers
    c.args.from.now c.args.label.now _ _ _ c.count_out-base.ensures c.count_out-gone.ensures c.count_out-came.ensures in
    counted.0

pub left-requires-clause-fits : goal.left-requires-clause-fits
left-requires-clause-fits c =
    let counted = out_counted c.self.inside.base c.self.inside.came c.self.inside.gone c.self.inside.nodes.keys _ c.self.invariant.layers
    c.args.from.now c.args.label.now _ _ _ c.count_out-base.ensures c.count_out-gone.ensures c.count_out-came.ensures in
    let most = c.self.invariant.reported.edge_count in
    omega (arith, counted.2)

pub returns : goal.returns
returns c =
    let counted = out_counted c.self.inside.base c.self.inside.came c.self.inside.gone c.self.inside.nodes.keys _ c.self.invariant.layers
    c.args.from.now c.args.label.now _ _ _ c.count_out-base.ensures c.count_out-gone.ensures c.count_out-came.ensures in
    subst (λ (b : Building). IsCountOf value_cmp (HasEdge b.graph c.args.from.now c.args.label.now) c.left.result) c.self.view_is
    (subst (IsCountOf value_cmp _) (sym c.left.ensures) counted.1)
