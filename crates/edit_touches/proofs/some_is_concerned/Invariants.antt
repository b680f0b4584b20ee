use Rattle.std.proofs.Common.{◌≡◌, drop, map}
use Rattle.std.specs.List.{list_any}
use Rattle.struql_ast.specs.Reading.{condition_of}
use Rattle.edit_touches.specs.Tests.{is_concerned}
use Rattle.edit_touches.proofs.some_is_concerned.Given as goal

abbrev pub invariant-loop-condition : goal.invariant-loop-condition
invariant-loop-condition l =
    list_any (is_concerned l.edit) (map condition_of (drop l.condition-index l.conditions)) ≡ list_any
    (is_concerned l.edit) (map condition_of l.conditions)
