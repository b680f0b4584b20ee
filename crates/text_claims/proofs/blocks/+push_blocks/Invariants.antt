use Rattle.std.proofs.Common.{◌≡◌, ◌++◌, take}
use Rattle.std.specs.Prelude.{map}
use Rattle.struql_ast.specs.Written.{blocks_written}
use Rattle.lint_spec.specs.QueryClaims.{blocks_within}
use Rattle.text_claims.specs.Blocks.{placed}
use Rattle.text_claims.proofs.blocks.+push_blocks.Given as goal

abbrev pub invariant-loop-block : goal.invariant-loop-block
invariant-loop-block l = map placed l.found.items ≡ map placed l.initial.found.items ++ blocks_within (blocks_written (take l.block-index l.blocks))
