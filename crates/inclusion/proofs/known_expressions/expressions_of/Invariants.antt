use Rattle.std.proofs.Common.{take}
use Rattle.std.specs.Prelude.{map, Contains}
use Rattle.rpe.specs.Regex.{any}
use Rattle.rpe.specs.Reading.{regex_of}
use Rattle.inclusion.specs.Known.{AreKnownBlocks}
use Rattle.inclusion.proofs.known_expressions.expressions_of.Given as goal

abbrev pub invariant-loop-block : goal.invariant-loop-block
invariant-loop-block l = record {
  any_label : Contains (map regex_of l.all.items) any;
  known : AreKnownBlocks l.all.items (take l.block-index l.blocks);
}
