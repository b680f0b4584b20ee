use Rattle.std.proofs.Common.{◌≡◌, take}
use Rattle.std.specs.Prelude.{map, filter}
use Rattle.std.specs.List.{flat_map}
use Rattle.query_spec.specs.Mentions.{same_name}
use Rattle.query_blocks.specs.Blocks.{body_of}
use Rattle.constraint_spec.specs.Placed.{body_mentions}
use Rattle.query_links.specs.Mentions.{mention_of, HaveChains}
use Rattle.query_links.proofs.written.mentions.Given as goal

abbrev pub invariant-loop-block : goal.invariant-loop-block
invariant-loop-block l = record {
  written : map mention_of l.found.items ≡ flat_map (λ b. filter (λ m. same_name m.term.function l.function) (body_mentions (body_of b))) (take l.block-index l.query.blocks.items);
  chains : HaveChains l.query.version l.found.items;
}
