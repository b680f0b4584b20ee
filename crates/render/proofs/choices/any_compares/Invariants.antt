use Rattle.std.proofs.Common.{take}
use Rattle.std.specs.Prelude.{Contains}
use Rattle.sd_value.specs.declared.Value.{Value}
use Rattle.page_spec.specs.Pieces.{HoldsBetween}
use Rattle.render.proofs.choices.any_compares.Given as goal

abbrev pub invariant-loop-value : goal.invariant-loop-value
invariant-loop-value l = (v : Value) → Contains (take l.value-index l.values) v → HoldsBetween l.against.compare v l.against.constant → ⊥
