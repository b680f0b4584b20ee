use Rattle.std.proofs.Common.{◌≡◌, ◌++◌, take}
use Rattle.page_spec.specs.Show as spec
use Rattle.address.proofs.written.push_arguments.Given as goal

abbrev pub invariant-loop-arg : goal.invariant-loop-arg
invariant-loop-arg l = l.out.items ≡ l.initial.out.items ++ spec.arguments (take l.arg-index l.args)
