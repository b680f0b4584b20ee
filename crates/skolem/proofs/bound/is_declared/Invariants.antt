use Rattle.std.proofs.Common.{take, map}
use Rattle.std.specs.Prelude.{Contains}
use Rattle.query_spec.specs.declared.Variable.{Variable}
use Rattle.skolem.proofs.bound.is_declared.Given as goal

abbrev pub invariant-loop-variable : goal.invariant-loop-variable
invariant-loop-variable l = Contains (map (λ (v : Variable). v.name) (take l.variable-index l.variables)) l.name → ⊥
