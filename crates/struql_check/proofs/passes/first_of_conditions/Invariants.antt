use Rattle.std.proofs.Common.{take}
use Rattle.struql_ast.specs.Written.{condition_written}
use Rattle.struql_check.specs.Faults.{SomeIn, ConditionFault}
use Rattle.struql_check.specs.First.{IsFirst}
use Rattle.struql_check.proofs.passes.first_of_conditions.Given as goal

abbrev pub invariant-loop-condition : goal.invariant-loop-condition
invariant-loop-condition l = IsFirst (SomeIn (λ x. ConditionFault (condition_written x)) (take l.condition-index l.conditions)) l.first
