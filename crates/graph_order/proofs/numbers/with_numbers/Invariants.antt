use Rattle.std.proofs.Common.{◌≡◌, take}
use Rattle.graph_order.specs.Numbers.{numbers_from}
use Rattle.graph_order.proofs.numbers.with_numbers.Given as goal

abbrev pub invariant-loop-number : goal.invariant-loop-number
invariant-loop-number l = l.members.items ≡ numbers_from 0 (take l.number l.names)
