use Rattle.std.proofs.Common.{◌≡◌, List, take}
use Rattle.sd_value.specs.declared.Value.{Value}
use Rattle.asker.specs.Wanted.{wanted_part}
use Rattle.condition_tests.specs.Known.{Agrees}
use Rattle.bindings.proofs.some_rows.part_of.Given as goal

abbrev pub invariant-loop-slot : goal.invariant-loop-slot
invariant-loop-slot l = (t : List Value) → Agrees t l.current → wanted_part (take l.slot l.wanted) t ≡ l.values.items
