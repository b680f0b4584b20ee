use Rattle.std.proofs.Common.{◌≡◌, take, map}
use Rattle.struql_ast.specs.Reading.{condition_of}
use Rattle.schema.specs.Rows.{conditions_text}
use Rattle.schema.proofs.edges.text_of_conditions.Given as goal

abbrev pub invariant-loop-condition : goal.invariant-loop-condition
invariant-loop-condition l = l.text.items ≡ conditions_text l.fn.version (map condition_of (take l.condition-index l.conditions))
