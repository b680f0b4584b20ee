use Rattle.std.proofs.Common.{◌≡◌, ◌++◌, take, map}
use Rattle.struql_ast.specs.Reading.{term_of}
use Rattle.schema.specs.Rows.{term_function}
use Rattle.schema.proofs.functions.push_functions.Given as goal

abbrev pub invariant-loop-term : goal.invariant-loop-term
invariant-loop-term l = l.found.items ≡ l.initial.found.items ++ map term_function (map term_of (take l.term-index l.terms))
