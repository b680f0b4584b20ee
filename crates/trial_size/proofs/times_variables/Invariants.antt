use Rattle.std.proofs.Common.{ℕ, ◌*◌, take}
use Rattle.std.specs.Prelude.{map}
use Rattle.struql_ast.specs.Reading.{condition_of}
use Rattle.counterexample_spec.specs.Trial.{product, free_ways}
use Rattle.trial_size.specs.Cut.{IsCut}
use Rattle.trial_size.proofs.times_variables.Given as goal

abbrev pub invariant-loop-variable : goal.invariant-loop-variable
invariant-loop-variable l =
    (n : ℕ) → IsCut n l.initial.rows → IsCut (n * product (map (free_ways l.graph (map condition_of l.conditions)) (take l.variable-index l.variables))) l.rows
