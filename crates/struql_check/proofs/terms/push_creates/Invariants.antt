use Rattle.std.proofs.Common.{◌≡◌, ◌++◌, take, false}
use Rattle.std.specs.Prelude.{map}
use Rattle.struql_ast.specs.Written.{term_written}
use Rattle.struql_check.specs.Scope.{seen}
use Rattle.struql_check.proofs.terms.push_creates.Given as goal

abbrev pub invariant-loop-term : goal.invariant-loop-term
invariant-loop-term l = l.found.items ≡ l.initial.found.items ++ map (seen false) (map term_written (take l.term-index l.terms))
