use Rattle.std.proofs.Common.{◌≡◌, take}
use Rattle.query_spec.specs.Rows.{arcs_of}
use Rattle.query_spec.proofs.variables.arcs_of_variables.Given as goal

abbrev pub invariant-loop-variable : goal.invariant-loop-variable
invariant-loop-variable l = l.arcs.items ≡ arcs_of (take l.variable-index l.variables)
