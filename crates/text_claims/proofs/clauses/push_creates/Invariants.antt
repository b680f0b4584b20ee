use Rattle.std.proofs.Common.{◌≡◌, ◌++◌, take}
use Rattle.std.specs.Prelude.{map}
use Rattle.struql_ast.specs.Written.{term_written}
use Rattle.lint_spec.specs.QueryClaims.{create_claim}
use Rattle.text_claims.proofs.clauses.push_creates.Given as goal

abbrev pub invariant-loop-term : goal.invariant-loop-term
invariant-loop-term l = l.found.items ≡ l.initial.found.items ++ map create_claim (map term_written (take l.term-index l.terms))
