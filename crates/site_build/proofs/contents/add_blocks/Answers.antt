use Rattle.std.proofs.Common.{◌∙◌, List, refl, subst}
use Rattle.std.proofs.lemmas.List.{take_all}
use Rattle.query_blocks.specs.declared.QueryBlock.{QueryBlock}
use Rattle.site_lookups.proofs.Some.{item_in}
use Rattle.site_build.specs.Materialised.{BlockAdds, BlocksAdd}
use Rattle.site_build.proofs.Site.{none_added, one_more}
use Rattle.site_build.proofs.contents.add_blocks.Goals as goal

pub loop-block-init : goal.loop-block-init
loop-block-init g c = record { graph = refl; adds = none_added (g.A.Asker.graph c.args.asker.now) c.args.made.now }

pub add_block-requires : goal.add_block-requires
add_block-requires g c = c.requires c.block-item.result (item_in _ _ _ c.loop-block-test.true c.block-item.is)

pub loop-block-preserved : goal.loop-block-preserved
loop-block-preserved g c = record {
  graph = c.in_ok-add_block.ensures.graph ∙ c.loop-block.invariant.graph;
  adds =
      one_more (g.A.Asker.graph c.args.asker.now) c.args.blocks.now c.loop-block.block-index c.block-item.result c.args.made.now c.loop-block.made c.add_block.new.made c.loop-block-test.true c.block-item.is c.loop-block.invariant.adds
      (subst (λ G. BlockAdds G c.block-item.result c.loop-block.made c.add_block.new.made) c.loop-block.invariant.graph c.in_ok-add_block.ensures.adds);
}

pub returns-clause-adds : goal.returns-clause-adds
returns-clause-adds g c = subst (λ (bs : List QueryBlock). BlocksAdd (g.A.Asker.graph c.args.asker.now) bs c.args.made.now c.loop-block.made) (take_all c.loop-block.block-index c.args.blocks.now c.loop-block-test.false) c.loop-block.invariant.adds
