use Rattle.std.proofs.Common.{sym, subst, List, []}
use Rattle.sd_value.specs.Names.{Name}
use Rattle.graph_spec.specs.DataGraph.{IsLabelOf}
use Rattle.live_store.specs.Shift.{Pushed}
use Rattle.live_store.proofs.Pushes.{pushed_none, pushed_step, pushed_all}
use Rattle.live_store.proofs.live.LiveStore.labels_among.Goals as goal

pub loop-label-init : goal.loop-label-init
loop-label-init c = subst (λ (xs : List Name). Pushed (λ (v : Name). v) (IsLabelOf c.args.self.now.graph) [] [] xs)
    (sym c.new-labels.ensures.items) (pushed_none (λ (v : Name). v) (IsLabelOf c.args.self.now.graph) [])

pub loop-label-preserved : goal.loop-label-preserved
loop-label-preserved c = pushed_step (λ (v : Name). v) (IsLabelOf c.args.self.now.graph)
    c.args.touched.now c.loop-label.label-index c.label-item.result _ _ _ (c.loop-label.invariant) c.loop-label-test.true
    c.label-item.is (c.in_ok-push_label.ensures)

pub returns : goal.returns
returns c = pushed_all (λ (v : Name). v) (IsLabelOf c.args.self.now.graph)
    c.args.touched.now c.loop-label.label-index _ _ (c.loop-label.invariant) c.loop-label-test.false
