use Rattle.std.proofs.Common.{◌≡◌, ◌+◌, drop}
use Rattle.std.specs.Prelude.{option_map}
use Rattle.plan_spec.specs.Shape.{number_of}
use Rattle.planner.proofs.shape.number_of.Given as goal

abbrev pub invariant-loop-i : goal.invariant-loop-i
invariant-loop-i l = number_of l.variables l.name ≡ option_map (λ k. l.i + k) (number_of (drop l.i l.variables) l.name)
