use Rattle.std.proofs.Common.{subst}
use Rattle.std.proofs.lemmas.Result.{IfOk-weaker}
use Rattle.sd_value.specs.Ascending.{ListsExactly}
use Rattle.sd_value.specs.Order.{value_cmp}
use Rattle.graph_spec.specs.Steps.{IsStart}
use Rattle.sd_graph.specs.Statement.{Building}
use Rattle.live_store.proofs.Questions.{start_listed}
use Rattle.live_store.proofs.answers.LiveStoreStore.incoming_by.Goals as goal

pub returns : goal.returns
returns c = IfOk-weaker c.shifted.result _ _
    (λ found is. subst (λ (b : Building). ListsExactly value_cmp (IsStart b.graph c.args.to.now c.args.label.now) found.items) c.self.view_is
    (start_listed c.self.inside.base c.self.inside.came c.self.inside.gone c.self.inside.nodes.keys _ c.self.invariant.layers
    c.args.to.now c.args.label.now _ _ _ found.items c.in_ok-base.ensures c.in_ok-gone.ensures c.in_ok-came.ensures is))
    c.shifted.ensures
