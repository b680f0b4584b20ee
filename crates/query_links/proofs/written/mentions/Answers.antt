use Rattle.std.proofs.Common.{arith, refl, subst, ◌∙◌, []}
use Rattle.std.specs.Prelude.{map, filter, Contains}
use Rattle.sd_value.specs.Members.{among_at}
use Rattle.query_spec.specs.Mentions.{same_name}
use Rattle.query_blocks.specs.Blocks.{body_of}
use Rattle.constraint_spec.specs.Placed.{body_mentions, Mention}
use Rattle.query_links.specs.Mentions.{mention_of}
use Rattle.query_links.proofs.Lists.{gathered_scanned, gathered_of_scanned}
use Rattle.query_links.proofs.Named.{blocks_named}
use Rattle.query_links.proofs.written.mentions.Goals as goal

pub loop-block-preserved : goal.loop-block-preserved
loop-block-preserved c = record {
  written =
      gathered_scanned (λ b. filter (λ (m : Mention). same_name m.term.function c.args.function.now) (body_mentions (body_of b))) [] (map mention_of c.loop-block.found.items) (map mention_of c.add_of_block.new.found.items)
      (filter (λ (m : Mention). same_name m.term.function c.args.function.now) (body_mentions (body_of c.block-item.result))) c.args.query.now.blocks.items c.deref-block-items.result.now c.loop-block.block-index c.block-item.result c.deref-block-items.ensures.value (omega arith) c.block-item.is c.loop-block.invariant.written
      c.in_ok-add_of_block.ensures.written refl;
  chains =
      c.in_ok-add_of_block.ensures.chains c.args.query.now.version c.loop-block.invariant.chains
      (c.requires c.block-item.result
      (subst (λ l. Contains l c.block-item.result) c.deref-block-items.ensures.value
      (among_at c.deref-block-items.result.now c.loop-block.block-index c.block-item.result c.block-item.result (omega arith) c.block-item.is refl))).chain;
}

pub returns-clause-written : goal.returns-clause-written
returns-clause-written c =
    gathered_of_scanned (λ b. filter (λ (m : Mention). same_name m.term.function c.args.function.now) (body_mentions (body_of b))) [] (map mention_of c.loop-block.found.items) c.args.query.now.blocks.items c.deref-block-items.result.now c.loop-block.block-index c.deref-block-items.ensures.value (omega arith) c.loop-block.invariant.written
    ∙ blocks_named c.args.function.now c.args.query.now
