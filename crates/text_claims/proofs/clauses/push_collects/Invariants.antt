use Rattle.std.proofs.Common.{◌≡◌, ◌++◌, take}
use Rattle.std.specs.Prelude.{map}
use Rattle.std.specs.List.{flat_map}
use Rattle.struql_ast.specs.Written.{collect_written}
use Rattle.lint_spec.specs.QueryClaims.{target_claims}
use Rattle.text_claims.proofs.clauses.push_collects.Given as goal

abbrev pub invariant-loop-collect : goal.invariant-loop-collect
invariant-loop-collect l = l.found.items ≡ l.initial.found.items ++ flat_map (λ k. target_claims k.target) (map collect_written (take l.collect-index l.collects))
