use Rattle.std.proofs.Common.{subst}
use Rattle.std.proofs.lemmas.Result.{IfOk-weaker}
use Rattle.sd_value.specs.Ascending.{ListsExactly}
use Rattle.graph_spec.specs.Orders.{step_cmp}
use Rattle.graph_spec.specs.Steps.{IsStepFrom}
use Rattle.sd_graph.specs.Statement.{Building}
use Rattle.live_store.proofs.Questions.{from_listed}
use Rattle.live_store.proofs.answers.LiveStoreStore.out_all.Goals as goal

pub returns : goal.returns
returns c = IfOk-weaker c.shifted.result _ _
    (λ found is. subst (λ (b : Building). ListsExactly step_cmp (IsStepFrom b.graph c.args.from.now) found.items) c.self.view_is
    (from_listed c.self.inside.base c.self.inside.came c.self.inside.gone c.self.inside.nodes.keys _ c.self.invariant.layers
    c.args.from.now _ _ _ found.items c.in_ok-base.ensures c.in_ok-gone.ensures c.in_ok-came.ensures is))
    c.shifted.ensures
