use Rattle.std.proofs.Common.{take, []}
use Rattle.graph_spec.specs.DataGraph.{IsLabelOf}
use Rattle.live_store.specs.Shift.{Pushed}
use Rattle.live_store.proofs.live.LiveStore.labels_among.Given as goal

abbrev pub invariant-loop-label : goal.invariant-loop-label
invariant-loop-label l = Pushed (λ v. v) (IsLabelOf l.self.graph) (take l.label-index l.touched) [] l.labels.items
