use Rattle.std.proofs.Common.{◌≡◌, ◌++◌, take, false}
use Rattle.std.specs.Prelude.{map}
use Rattle.std.specs.List.{flat_map}
use Rattle.struql_ast.specs.Written.{condition_written}
use Rattle.lint_spec.specs.QueryClaims.{condition_claims}
use Rattle.text_claims.proofs.clauses.push_conditions.Given as goal

abbrev pub invariant-loop-condition : goal.invariant-loop-condition
invariant-loop-condition l = l.found.items ≡ l.initial.found.items ++ flat_map (condition_claims l.block false) (map condition_written (take l.condition-index l.conditions))
