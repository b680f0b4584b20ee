use Rattle.std.proofs.Common.{◌≡◌, take, map}
use Rattle.struql_ast.specs.Reading.{condition_of}
use Rattle.plan_spec.specs.Shape.{shape_of}
use Rattle.planner.proofs.shape.shapes_from.Given as goal

abbrev pub invariant-loop-condition : goal.invariant-loop-condition
invariant-loop-condition l = l.shapes.items ≡ map (shape_of l.prices.counts.now l.version l.variables) (map condition_of (take l.condition-index l.conditions))
