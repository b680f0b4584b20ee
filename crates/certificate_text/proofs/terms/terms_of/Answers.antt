use Rattle.std.specs.Prelude.{map}
use Rattle.certificate_text.specs.Written.{placed_of}
use Rattle.certificate_text.proofs.TermLists.{placed_more}
use Rattle.certificate_text.proofs.terms.terms_of.Goals as goal

pub loop-i-preserved : goal.loop-i-preserved
loop-i-preserved c =
    placed_more c.args.function.now c.args.paths.now c.args.blocks.now c.loop-i.i c.index-paths-i.result c.index-blocks-i.result (map placed_of c.loop-i.found.items) (map placed_of c.push_block.new.found.items)
    c.requires c.loop-i-test.true c.index-paths-i.is c.index-blocks-i.is c.loop-i.invariant c.in_ok-push_block.ensures
