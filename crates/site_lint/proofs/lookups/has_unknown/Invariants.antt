use Rattle.std.proofs.Common.{ℕ, List, take}
use Rattle.std.specs.Prelude.{Contains}
use Rattle.graph_spec.specs.DataGraph.{IsLabelOf}
use Rattle.site_lint.proofs.lookups.has_unknown.Given as goal

abbrev pub invariant-loop-label : goal.invariant-loop-label
invariant-loop-label g l = (m : List ℕ) → Contains (take l.label-index l.labels) m → (IsLabelOf (g.S.Store.graph l.store) m → ⊥) → ⊥
