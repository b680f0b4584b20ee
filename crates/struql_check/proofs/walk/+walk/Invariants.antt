use Rattle.std.proofs.Common.{◌≡◌, take}
use Rattle.struql_ast.specs.Written.{blocks_written}
use Rattle.struql_check.specs.Scope.{within}
use Rattle.struql_check.specs.Faults.{SomeIn, BlockFault}
use Rattle.struql_check.specs.First.{IsFirst}
use Rattle.struql_check.proofs.walk.+walk.Given as goal

abbrev pub invariant-first_of_blocks-loop-block : goal.invariant-first_of_blocks-loop-block
invariant-first_of_blocks-loop-block l = record {
  levels : l.levels.items ≡ l.initial.levels.items;
  first : IsFirst (SomeIn (BlockFault l.fn.version) (within l.initial.levels.items (blocks_written (take l.block-index l.blocks)))) l.first;
}
