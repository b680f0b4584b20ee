use Rattle.std.proofs.Common.{arith}
use Rattle.struql_ast.specs.Written.{collect_written}
use Rattle.struql_check.specs.Faults.{CollectFault}
use Rattle.struql_check.proofs.Firsts.{first_nil, first_step, first_end, first_map}
use Rattle.struql_check.proofs.passes.first_of_collects.Goals as goal

pub loop-collect-init : goal.loop-collect-init
loop-collect-init c = first_nil (λ x. CollectFault c.args.version (collect_written x))

pub loop-collect-preserved : goal.loop-collect-preserved
loop-collect-preserved c =
    rw c.earlier-first.ensures
    (first_step (λ x. CollectFault c.args.version (collect_written x)) c.args.collects.now c.loop-collect.collect-index c.collect-item.result c.loop-collect.first _ (omega arith) c.collect-item.is c.loop-collect.invariant c.collect_fault.ensures)

pub returns : goal.returns
returns c = first_map (CollectFault c.args.version) collect_written c.args.collects.now c.loop-collect.first (first_end (λ x. CollectFault c.args.version (collect_written x)) c.args.collects.now c.loop-collect.collect-index c.loop-collect.first c.loop-collect-test.false c.loop-collect.invariant)
