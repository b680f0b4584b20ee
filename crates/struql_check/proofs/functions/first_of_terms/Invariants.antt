use Rattle.std.proofs.Common.{take}
use Rattle.struql_check.specs.Faults.{SomeIn, TermFault}
use Rattle.struql_check.specs.First.{IsFirst}
use Rattle.struql_check.proofs.functions.first_of_terms.Given as goal

abbrev pub invariant-loop-term : goal.invariant-loop-term
invariant-loop-term l = IsFirst (SomeIn (TermFault l.fn.version l.terms) (take l.term-index l.terms)) l.first
