use Rattle.std.proofs.Common.{[], take}
use Rattle.std.specs.Prelude.{map}
use Rattle.struql_ast.specs.Reading.{condition_of}
use Rattle.counterexample_spec.specs.Trial.{rows_after}
use Rattle.trial_size.specs.Cut.{IsCut}
use Rattle.trial_size.proofs.condition_rows.Given as goal

abbrev pub invariant-loop-i : goal.invariant-loop-i
invariant-loop-i l = IsCut (rows_after l.graph [] (map condition_of (take l.i l.conditions))) l.rows
