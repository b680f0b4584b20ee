use Rattle.std.proofs.Common.{take}
use Rattle.struql_ast.specs.Written.{collect_written}
use Rattle.struql_check.specs.Faults.{SomeIn, CollectFault}
use Rattle.struql_check.specs.First.{IsFirst}
use Rattle.struql_check.proofs.passes.first_of_collects.Given as goal

abbrev pub invariant-loop-collect : goal.invariant-loop-collect
invariant-loop-collect l = IsFirst (SomeIn (λ x. CollectFault l.fn.version (collect_written x)) (take l.collect-index l.collects)) l.first
