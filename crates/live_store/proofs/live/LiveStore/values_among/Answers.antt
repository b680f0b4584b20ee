use Rattle.std.proofs.Common.{sym, subst, List, []}
use Rattle.sd_value.specs.declared.Value.{Value}
use Rattle.graph_spec.specs.DataGraph.{IsValueOf}
use Rattle.live_store.specs.Shift.{Pushed}
use Rattle.live_store.proofs.Pushes.{pushed_none, pushed_step, pushed_all}
use Rattle.live_store.proofs.live.LiveStore.values_among.Goals as goal

pub loop-value-init : goal.loop-value-init
loop-value-init c = subst (λ (xs : List Value). Pushed (λ (v : Value). v) (IsValueOf c.args.self.now.graph) [] [] xs)
    (sym c.new-values.ensures.items) (pushed_none (λ (v : Value). v) (IsValueOf c.args.self.now.graph) [])

pub loop-value-preserved : goal.loop-value-preserved
loop-value-preserved c = pushed_step (λ (v : Value). v) (IsValueOf c.args.self.now.graph)
    c.args.touched.now c.loop-value.value-index c.value-item.result _ _ _ (c.loop-value.invariant) c.loop-value-test.true
    c.value-item.is (c.in_ok-push_value.ensures)

pub returns : goal.returns
returns c = pushed_all (λ (v : Value). v) (IsValueOf c.args.self.now.graph)
    c.args.touched.now c.loop-value.value-index _ _ (c.loop-value.invariant) c.loop-value-test.false
