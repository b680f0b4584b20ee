use Rattle.std.proofs.Common.{◌≡◌, drop, map}
use Rattle.struql_ast.specs.Reading.{condition_of}
use Rattle.edit_touches.specs.Tests.{is_guarded}
use Rattle.edit_touches.proofs.is_guarded.Given as goal

abbrev pub invariant-loop-variable : goal.invariant-loop-variable
invariant-loop-variable l =
    is_guarded (drop l.variable-index l.variables) (map condition_of l.conditions) ≡ is_guarded l.variables
    (map condition_of l.conditions)
