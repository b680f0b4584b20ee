use Rattle.std.proofs.Common.{◌≡◌, ◌++◌, take}
use Rattle.page_spec.specs.Show as spec
use Rattle.address.proofs.written.push_in_address.Given as goal

abbrev pub invariant-loop-b : goal.invariant-loop-b
invariant-loop-b l = l.out.items ≡ l.initial.out.items ++ spec.in_address (take l.b-index l.text)
