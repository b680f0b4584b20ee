use Rattle.std.proofs.Common.{◌≡◌, ◌++◌, drop}
use Rattle.template_reader.proofs.body.extended.Given as goal

abbrev pub invariant-loop-bound : goal.invariant-loop-bound
invariant-loop-bound l = l.bounds.items ++ drop l.bound-index l.scope ≡ l.scope
