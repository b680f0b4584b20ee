use Rattle.std.proofs.Common.{arith, ◌∙◌, []}
use Rattle.std.specs.Prelude.{map}
use Rattle.std.specs.List.{flat_map}
use Rattle.query_blocks.specs.Blocks.{body_of}
use Rattle.constraint_spec.specs.Placed.{body_links}
use Rattle.link_index.specs.Links.{quoted_of}
use Rattle.link_index.specs.Found.{quoted_name}
use Rattle.link_index.proofs.Loops.{gathered_more, gathered_all, flat_mapped_flat}
use Rattle.link_index.proofs.gathered.quoted_links.Goals as goal

pub loop-block-preserved : goal.loop-block-preserved
loop-block-preserved c =
    gathered_more (λ b. flat_map quoted_of (body_links (body_of b))) [] (map quoted_name c.loop-block.found.items) (map quoted_name c.push_quoted_of.new.found.items) c.args.query.now.blocks.items c.deref-block-items.result.now c.loop-block.block-index c.block-item.result
    c.deref-block-items.ensures.value (omega arith) c.block-item.is c.loop-block.invariant c.in_ok-push_quoted_of.ensures

pub returns : goal.returns
returns c =
    gathered_all (λ b. flat_map quoted_of (body_links (body_of b))) [] (map quoted_name c.loop-block.found.items) c.args.query.now.blocks.items c.deref-block-items.result.now c.loop-block.block-index c.deref-block-items.ensures.value (omega arith) c.loop-block.invariant
    ∙ flat_mapped_flat quoted_of body_links body_of c.args.query.now.blocks.items
