use Rattle.std.proofs.Common.{◌≡◌, ◌++◌, take}
use Rattle.struql_ast.specs.Written.{blocks_written}
use Rattle.struql_check.specs.Scope.{terms_within}
use Rattle.struql_check.proofs.terms.+push_terms.Given as goal

abbrev pub invariant-loop-block : goal.invariant-loop-block
invariant-loop-block l = l.found.items ≡ l.initial.found.items ++ terms_within (blocks_written (take l.block-index l.blocks))
