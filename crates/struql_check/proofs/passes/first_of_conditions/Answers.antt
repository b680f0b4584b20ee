use Rattle.std.proofs.Common.{arith}
use Rattle.struql_ast.specs.Written.{condition_written}
use Rattle.struql_check.specs.Faults.{ConditionFault}
use Rattle.struql_check.proofs.Firsts.{first_nil, first_step, first_end, first_map}
use Rattle.struql_check.proofs.passes.first_of_conditions.Goals as goal

pub loop-condition-init : goal.loop-condition-init
loop-condition-init c = first_nil (λ x. ConditionFault (condition_written x))

pub loop-condition-preserved : goal.loop-condition-preserved
loop-condition-preserved c =
    rw c.earlier-first.ensures
    (first_step (λ x. ConditionFault (condition_written x)) c.args.conditions.now c.loop-condition.condition-index c.condition-item.result c.loop-condition.first _ (omega arith) c.condition-item.is c.loop-condition.invariant c.condition_fault.ensures)

pub returns : goal.returns
returns c = first_map ConditionFault condition_written c.args.conditions.now c.loop-condition.first (first_end (λ x. ConditionFault (condition_written x)) c.args.conditions.now c.loop-condition.condition-index c.loop-condition.first c.loop-condition-test.false c.loop-condition.invariant)
