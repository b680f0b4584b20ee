use Rattle.std.proofs.Common.{◌≡◌, drop, map}
use Rattle.std.specs.List.{list_any}
use Rattle.struql_ast.specs.Reading.{condition_of}
use Rattle.edit_touches.specs.Tests.{finds}
use Rattle.edit_touches.proofs.is_found.Given as goal

abbrev pub invariant-loop-condition : goal.invariant-loop-condition
invariant-loop-condition l =
    list_any (finds l.variable) (map condition_of (drop l.condition-index l.conditions)) ≡ list_any (finds l.variable)
    (map condition_of l.conditions)
