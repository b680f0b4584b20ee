use Rattle.edit_touches.proofs.Blocks.{block_says}
use Rattle.edit_touches.proofs.touches_block.Goals as goal

pub returns : goal.returns
returns c = block_says c.args.scopes.now c.args.edit.now c.args.number c.index.result.now c.touches_chain.result
    c.requires.within c.requires.scoped c.index.ensures c.touches_chain.ensures
