use Rattle.std.proofs.Common.{refl, false}
use Rattle.query_blocks.specs.Blocks.{scope_of}
use Rattle.edit_footprint.proofs.Whole.{parts_fine}
use Rattle.edit_footprint.proofs.parts_of.Goals as goal

pub returns : goal.returns
returns c = λ f h.
    parts_fine f (scope_of c.args.scopes.now) c.args.function.now c.args.reads
    (record {
      every = false;
      blocks = c.in_ok-blocks.blocks;
      labels = c.sort_and_dedup.new.items;
      collections =
          c.sort_and_dedup-2.new.items;
    }) c.if-reads.false refl c.in_ok-blocks.ensures c.sort_and_dedup.ensures
    c.sort_and_dedup-2.ensures h
