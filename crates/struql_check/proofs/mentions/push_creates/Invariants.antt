use Rattle.std.proofs.Common.{◌≡◌, ◌++◌, take}
use Rattle.std.specs.Prelude.{map}
use Rattle.std.specs.List.{flat_map}
use Rattle.struql_ast.specs.Written.{term_written}
use Rattle.struql_check.specs.Scope.{term_mentions}
use Rattle.struql_check.proofs.mentions.push_creates.Given as goal

abbrev pub invariant-loop-term : goal.invariant-loop-term
invariant-loop-term l = l.found.items ≡ l.initial.found.items ++ flat_map term_mentions (map term_written (take l.term-index l.terms))
