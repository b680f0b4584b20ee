use Rattle.std.proofs.Common.{take}
use Rattle.std.specs.Prelude.{true}
use Rattle.render.specs.Rows.{IsLeastKey}
use Rattle.render.proofs.order.least.Given as goal

abbrev pub invariant-loop-value : goal.invariant-loop-value
invariant-loop-value l = IsLeastKey true (take l.value-index l.values) l.least
