use Rattle.std.proofs.Common.{◌≡◌, take}
use Rattle.std.specs.Prelude.{map}
use Rattle.struql_ast.specs.Reading.{condition_of}
use Rattle.certificate_search.specs.LinkDepths.{condition_depths}
use Rattle.certificate_search.proofs.depths.of_conditions.Given as goal

abbrev pub invariant-loop-condition : goal.invariant-loop-condition
invariant-loop-condition l = l.depths.items ≡ condition_depths l.variables (map condition_of (take l.condition-index l.conditions))
