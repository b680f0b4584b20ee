use Rattle.std.proofs.Common.{arith}
use Rattle.schema.proofs.RowLists.{block_more}
use Rattle.schema.proofs.edges.edges_of.Goals as goal

pub loop-i-preserved : goal.loop-i-preserved
loop-i-preserved c =
    block_more c.args.version c.args.paths.now c.args.blocks.now c.loop-i.i c.index-paths-i.result c.index-blocks-i.result c.loop-i.edges.items c.push_block.new.edges.items c.requires (omega arith) c.index-paths-i.is c.index-blocks-i.is c.loop-i.invariant c.in_ok-push_block.ensures
