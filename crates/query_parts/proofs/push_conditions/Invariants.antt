use Rattle.std.proofs.Common.{◌≡◌, ◌++◌, take}
use Rattle.std.specs.Prelude.{map}
use Rattle.struql_ast.specs.Reading.{condition_of}
use Rattle.query_parts.proofs.push_conditions.Given as goal

abbrev pub invariant-loop-item : goal.invariant-loop-item
invariant-loop-item l = map condition_of l.found.items ≡ map condition_of l.initial.found.items ++ map condition_of (take l.item-index l.conditions)
