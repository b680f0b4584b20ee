use Rattle.std.proofs.Common.{arith}
use Rattle.struql_ast.specs.Written.{link_written}
use Rattle.struql_check.specs.Faults.{LinkFault}
use Rattle.struql_check.proofs.Firsts.{first_nil, first_step, first_end, first_map}
use Rattle.struql_check.proofs.passes.first_of_links.Goals as goal

pub loop-link-init : goal.loop-link-init
loop-link-init c = first_nil (λ x. LinkFault (link_written x))

pub loop-link-preserved : goal.loop-link-preserved
loop-link-preserved c =
    rw c.earlier-first.ensures
    (first_step (λ x. LinkFault (link_written x)) c.args.links.now c.loop-link.link-index c.link-item.result c.loop-link.first _ (omega arith) c.link-item.is c.loop-link.invariant c.link_fault.ensures)

pub returns : goal.returns
returns c = first_map LinkFault link_written c.args.links.now c.loop-link.first (first_end (λ x. LinkFault (link_written x)) c.args.links.now c.loop-link.link-index c.loop-link.first c.loop-link-test.false c.loop-link.invariant)
