use Rattle.std.proofs.Common.{List, map, sym, subst}
use Rattle.query_blocks.specs.declared.QueryBlock.{QueryBlock}
use Rattle.query_blocks.specs.Blocks.{AreCheckedBlocks}
use Rattle.certificate_text.proofs.VariableLists.{links_more}
use Rattle.certificate_text.proofs.variables.variables_by_link.Goals as goal

pub loop-block-preserved : goal.loop-block-preserved
loop-block-preserved c =
    let P : List QueryBlock → Type 0 = λ bs. AreCheckedBlocks c.args.blocks.now.version bs in
    links_more c.args.blocks.now.version c.deref-block-items.result.now c.loop-block.block-index c.block-item.result c.variables.result.now c.deref.result.now
    (map (λ v. v.now) c.loop-block.found.items) (map (λ v. v.now) c.push_for_each.new.found.items)
    (subst P (sym c.deref-block-items.ensures.value) c.requires) c.loop-block-test.true c.block-item.is c.variables.ensures c.deref.ensures.value c.loop-block.invariant c.in_ok-push_for_each.ensures
