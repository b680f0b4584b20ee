use Rattle.std.proofs.Common.{take}
use Rattle.query_spec.specs.Rows.{value_in}
use Rattle.site_spec.specs.Site.{SomeOf}
use Rattle.site_build.specs.Gains.{Gains}
use Rattle.site_build.proofs.made.add_clause.Given as goal

abbrev pub invariant-loop-i : goal.invariant-loop-i
invariant-loop-i g l = Gains (λ m. SomeOf (λ row. g.C.Clause.makes l.clause (value_in l.variables row) m) (take l.i l.rows)) l.initial.made.keys l.made.keys
