use Rattle.std.proofs.Common.{arith}
use Rattle.rpe.specs.Regex.{any}
use Rattle.query_blocks.specs.Blocks.{body_of}
use Rattle.inclusion.specs.Known.{IsKnownBody}
use Rattle.inclusion.proofs.Kept.{body_kept, all_known_more, all_of_taken}
use Rattle.inclusion.proofs.known_expressions.expressions_of.Goals as goal

pub loop-block-preserved : goal.loop-block-preserved
loop-block-preserved c = record {
  any_label = c.in_ok-add_of_block.ensures.kept any c.loop-block.invariant.any_label;
  known =
      all_known_more (λ all s. IsKnownBody all (body_of s)) (λ old new k s. body_kept old new k (body_of s)) c.loop-block.all.items c.add_of_block.new.all.items c.in_ok-add_of_block.ensures.kept c.args.blocks.now c.loop-block.block-index c.block-item.result (omega arith)
      c.block-item.is c.loop-block.invariant.known c.in_ok-add_of_block.ensures.there;
}

pub returns-clause-known : goal.returns-clause-known
returns-clause-known c = all_of_taken (λ s. IsKnownBody c.loop-block.all.items (body_of s)) c.args.blocks.now c.loop-block.block-index (omega arith) c.loop-block.invariant.known
