use Rattle.std.proofs.Common.{◌≡◌, take}
use Rattle.condition_tests.specs.Known.{known_part}
use Rattle.bindings.proofs.row.row_of.Given as goal

abbrev pub invariant-loop-known : goal.invariant-loop-known
invariant-loop-known l = l.values.items ≡ known_part (take l.known-index l.current)
