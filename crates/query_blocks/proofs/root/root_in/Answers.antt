use Rattle.std.proofs.Common.{◌∙◌, sym}
use Rattle.struql_ast.specs.Reading.{term_of}
use Rattle.query_blocks.proofs.RootLaws.{root_here, root_next}
use Rattle.query_blocks.proofs.root.root_in.Goals as goal

pub returns-in-Some : goal.returns-in-Some
returns-in-Some c =
    sym (root_here c.args.blocks.now c.loop-block.block-index c.block-item.result (term_of c.in-Some.term.now) c.loop-block-test.true c.block-item.is c.in-Some.ensures)
    ∙ c.loop-block.invariant

pub loop-block-preserved : goal.loop-block-preserved
loop-block-preserved c =
    sym (root_next c.args.blocks.now c.loop-block.block-index c.block-item.result c.loop-block-test.true c.block-item.is c.in_default.ensures)
    ∙ c.loop-block.invariant
