use Rattle.std.proofs.Common.{take}
use Rattle.query_spec.specs.Rows.{value_in}
use Rattle.site_spec.specs.Site.{SomeOf}
use Rattle.site_build.specs.Gains.{Gains}
use Rattle.site_build.proofs.made.add_rows.Given as goal

abbrev pub invariant-loop-clause : goal.invariant-loop-clause
invariant-loop-clause g l = Gains (λ m. SomeOf (λ k. SomeOf (λ row. g.C.Clause.makes k (value_in l.variables row) m) l.rows) (take l.clause-index l.clauses)) l.initial.made.keys l.made.keys
