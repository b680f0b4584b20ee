use Rattle.std.proofs.Common.{◌≡◌, ◌++◌, take}
use Rattle.std.specs.Prelude.{map}
use Rattle.query_spec.specs.Query.{with_outer}
use Rattle.struql_ast.specs.Reading.{condition_of, blocks_of}
use Rattle.query_blocks.specs.Blocks.{body_of}
use Rattle.query_scoping.specs.Blocks.{HaveChains}
use Rattle.query_scoping.proofs.blocks.+push_blocks.Given as goal

abbrev pub invariant-loop-block : goal.invariant-loop-block
invariant-loop-block l = record {
  bodies : map body_of l.found.items ≡ map body_of l.initial.found.items ++ with_outer (map condition_of l.outer) (blocks_of (take l.block-index l.blocks));
  chains : HaveChains l.version l.initial.found.items → HaveChains l.version l.found.items;
}
