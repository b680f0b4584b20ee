use Rattle.std.proofs.Common.{◌≡◌, ◌++◌, drop, map}
use Rattle.query_blocks.specs.Blocks.{body_of}
use Rattle.edit_footprint.specs.Rests as tests
use Rattle.edit_footprint.specs.Numbers.{numbers_from}
use Rattle.edit_footprint.proofs.blocks_of.Given as goal

abbrev pub invariant-loop-block : goal.invariant-loop-block
invariant-loop-block l = record {
  counted : l.number ≡ l.block-index;
  so_far : l.numbers.items ++ numbers_from (tests.rests_on l.function l.reads.own.items l.reads.others.items
      l.reads.collections.items) l.number (map body_of (drop l.block-index l.block-items))
      ≡ numbers_from (tests.rests_on l.function l.reads.own.items l.reads.others.items l.reads.collections.items) 0
      (map body_of l.block-items);
}
