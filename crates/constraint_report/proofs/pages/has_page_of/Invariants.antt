use Rattle.std.proofs.Common.{take}
use Rattle.std.specs.Prelude.{Contains}
use Rattle.sd_value.specs.declared.Value.{Value}
use Rattle.constraint_spec.specs.Meets.{IsPageOf}
use Rattle.constraint_report.proofs.pages.has_page_of.Given as goal

abbrev pub invariant-loop-value : goal.invariant-loop-value
invariant-loop-value l = (v : Value) → Contains (take l.value-index l.values) v → IsPageOf l.function v → ⊥
