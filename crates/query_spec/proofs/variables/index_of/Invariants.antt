use Rattle.query_spec.proofs.VariableNumbers.{NotBefore}
use Rattle.query_spec.proofs.variables.index_of.Given as goal

abbrev pub invariant-loop-i : goal.invariant-loop-i
invariant-loop-i l = NotBefore l.variables l.name l.i
