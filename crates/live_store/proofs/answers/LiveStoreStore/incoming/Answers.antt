use Rattle.std.proofs.Common.{subst}
use Rattle.std.proofs.lemmas.Result.{IfOk-weaker}
use Rattle.sd_value.specs.Ascending.{ListsExactly}
use Rattle.graph_spec.specs.Orders.{step_cmp}
use Rattle.graph_spec.specs.Steps.{IsStepTo}
use Rattle.sd_graph.specs.Statement.{Building}
use Rattle.live_store.proofs.Questions.{to_listed}
use Rattle.live_store.proofs.answers.LiveStoreStore.incoming.Goals as goal

pub returns : goal.returns
returns c = IfOk-weaker c.shifted.result _ _
    (λ found is. subst (λ (b : Building). ListsExactly step_cmp (IsStepTo b.graph c.args.to.now) found.items) c.self.view_is
    (to_listed c.self.inside.base c.self.inside.came c.self.inside.gone c.self.inside.nodes.keys _ c.self.invariant.layers
    c.args.to.now _ _ _ found.items c.in_ok-base.ensures c.in_ok-gone.ensures c.in_ok-came.ensures is))
    c.shifted.ensures
