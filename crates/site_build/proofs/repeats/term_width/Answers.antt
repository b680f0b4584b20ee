use Rattle.std.proofs.Common.{List, subst}
use Rattle.struql_ast.specs.declared.Operand.{Operand}
use Rattle.struql_ast.specs.Reading.{operand_of, term_of}
use Rattle.std.proofs.Common.{map}
use Rattle.site_build.proofs.RowReads.{ReadsTerm, reads_nothing, reads_one_more, reads_all, asks_term}
use Rattle.site_build.proofs.repeats.term_width.Goals as goal

pub loop-operand-init : goal.loop-operand-init
loop-operand-init c = reads_nothing c.args.variables.now

pub loop-operand-preserved : goal.loop-operand-preserved
loop-operand-preserved c =
    reads_one_more c.args.variables.now c.loop-operand.width c.operand_width.result c.larger-width.result c.as_slice-operand-items.result.now c.loop-operand.operand-index c.operand-item.result
    c.loop-operand-test.true c.operand-item.is c.larger-width.ensures.first c.larger-width.ensures.second c.loop-operand.invariant c.operand_width.ensures

pub returns : goal.returns
returns c =
    asks_term c.args.variables.now c.loop-operand.width (term_of c.args.written.now)
    (subst (λ (os : List Operand). ReadsTerm c.args.variables.now c.loop-operand.width (map operand_of os)) c.as_slice-operand-items.ensures.value
    (reads_all c.args.variables.now c.loop-operand.width c.as_slice-operand-items.result.now c.loop-operand.operand-index c.loop-operand-test.false c.loop-operand.invariant))
