-- A block where it is written.
use Rattle.std.specs.Borrow.{Bor}
use Rattle.struql_ast.specs.declared.Block.{Block}
use Rattle.struql_ast.specs.Written.{block_clauses, block_span}
use Rattle.lint_spec.specs.QueryClaims.{PlacedBlock}

-- the block by itself, with its place
abbrev pub placed : Bor Block → PlacedBlock
placed b = record { clauses = block_clauses b.now; span = block_span b.now }
