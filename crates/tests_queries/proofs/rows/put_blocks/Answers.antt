use Rattle.site_lookups.proofs.Some.{item_in}
use Rattle.tests_queries.proofs.rows.put_blocks.Goals as goal

pub put_block-requires : goal.put_block-requires
put_block-requires g c = c.requires c.block-item.result (item_in _ _ _ c.loop-block-test.true c.block-item.is)
