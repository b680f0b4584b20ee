use Rattle.std.proofs.Common.{◌≡◌, ◌++◌, take}
use Rattle.std.specs.Prelude.{map}
use Rattle.std.specs.List.{flat_map}
use Rattle.struql_ast.specs.Written.{link_written}
use Rattle.lint_spec.specs.QueryClaims.{target_claims}
use Rattle.text_claims.proofs.clauses.push_links.Given as goal

abbrev pub invariant-loop-link : goal.invariant-loop-link
invariant-loop-link l = l.found.items ≡ l.initial.found.items ++ flat_map (λ k. target_claims k.target) (map link_written (take l.link-index l.links))
