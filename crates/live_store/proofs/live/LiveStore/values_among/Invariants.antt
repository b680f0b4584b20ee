use Rattle.std.proofs.Common.{take, []}
use Rattle.graph_spec.specs.DataGraph.{IsValueOf}
use Rattle.live_store.specs.Shift.{Pushed}
use Rattle.live_store.proofs.live.LiveStore.values_among.Given as goal

abbrev pub invariant-loop-value : goal.invariant-loop-value
invariant-loop-value l = Pushed (λ v. v) (IsValueOf l.self.graph) (take l.value-index l.touched) [] l.values.items
