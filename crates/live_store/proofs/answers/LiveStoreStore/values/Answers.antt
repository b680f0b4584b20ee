use Rattle.std.proofs.Common.{List, sym, subst, []}
use Rattle.std.proofs.lemmas.Result.{IfOk-weaker}
use Rattle.sd_value.specs.declared.Value.{Value}
use Rattle.sd_value.specs.Order.{value_cmp}
use Rattle.sd_value.specs.Ascending.{ListsExactly}
use Rattle.graph_spec.specs.DataGraph.{IsValueOf}
use Rattle.sd_graph.specs.Statement.{Building}
use Rattle.live_store.specs.Shift.{Pushed}
use Rattle.live_store.proofs.TouchedLaws.{values_listed}
use Rattle.live_store.proofs.answers.LiveStoreStore.values.Goals as goal

pub returns : goal.returns
returns c = IfOk-weaker c.shifted.result _ _
    (λ found is. subst (λ (b : Building). ListsExactly value_cmp (IsValueOf b.graph) found.items) c.self.view_is
    (values_listed c.self.inside.base c.self.inside.came c.self.inside.gone c.self.inside.nodes.keys _ c.self.invariant.layers
    c.in_ok-touched.touched.items c.in_ok-touched.ensures c.in_ok-base.base.items c.in_ok-now.now.items found.items
    c.in_ok-base.ensures
    (subst (λ (b : Building). Pushed (λ (v : Value). v) (IsValueOf b.graph) c.in_ok-touched.touched.items []
    c.in_ok-now.now.items) (sym c.self.view_is)
    (subst (λ (ts : List Value). Pushed (λ (v : Value). v) (IsValueOf c.args.self.now.graph) ts [] c.in_ok-now.now.items)
    c.as_slice.ensures.value c.in_ok-now.ensures)) is))
    c.shifted.ensures
