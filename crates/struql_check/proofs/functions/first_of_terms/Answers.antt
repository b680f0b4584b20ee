use Rattle.std.proofs.Common.{arith}
use Rattle.struql_check.specs.Faults.{TermFault}
use Rattle.struql_check.proofs.Firsts.{first_nil, first_step, first_end}
use Rattle.struql_check.proofs.functions.first_of_terms.Goals as goal

pub loop-term-init : goal.loop-term-init
loop-term-init c = first_nil (TermFault c.args.version c.args.terms.now)

pub loop-term-preserved : goal.loop-term-preserved
loop-term-preserved c =
    rw c.earlier-first.ensures
    (first_step (TermFault c.args.version c.args.terms.now) c.args.terms.now c.loop-term.term-index c.term-item.result c.loop-term.first _ (omega arith) c.term-item.is c.loop-term.invariant
    (c.term_fault.ensures c.args.terms.now c.in_ok-created.ensures c.in_ok-arities.ensures))

pub returns : goal.returns
returns c = first_end (TermFault c.args.version c.args.terms.now) c.args.terms.now c.loop-term.term-index c.loop-term.first c.loop-term-test.false c.loop-term.invariant
