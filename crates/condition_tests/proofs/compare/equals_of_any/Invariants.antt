use Rattle.std.proofs.Common.{take}
use Rattle.std.specs.Prelude.{Contains, ◌↔◌}
use Rattle.sd_value.specs.declared.Value.{Value}
use Rattle.condition_tests.specs.Meaning.{IsOneOf}
use Rattle.condition_tests.proofs.compare.equals_of_any.Given as goal

abbrev pub invariant-loop-constant : goal.invariant-loop-constant
invariant-loop-constant l = (w : Value) → Contains l.values.items w ↔ IsOneOf l.version (take l.constant-index l.constant-items) w
