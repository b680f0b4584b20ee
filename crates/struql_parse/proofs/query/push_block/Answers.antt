use Rattle.struql_parse.proofs.BlockLoop.{blocks_written-snoc}
use Rattle.struql_parse.proofs.query.push_block.Goals as goal

pub returns : goal.returns
returns c = rw c.in_ok-push.ensures.items (blocks_written-snoc c.args.blocks.items c.args.block)
