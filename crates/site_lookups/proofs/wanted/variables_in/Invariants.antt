use Rattle.std.proofs.Common.{take}
use Rattle.struql_ast.specs.Reading.{target_of}
use Rattle.site_lookups.specs.Wanted.{Tells}
use Rattle.site_lookups.proofs.wanted.variables_in.Given as goal

abbrev pub invariant-loop-variable : goal.invariant-loop-variable
invariant-loop-variable l = Tells (take l.variable-index l.variables) (target_of l.target) l.flags.items
