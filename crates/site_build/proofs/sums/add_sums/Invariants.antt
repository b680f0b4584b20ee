use Rattle.std.proofs.Common.{take}
use Rattle.struql_ast.specs.Reading.{link_of}
use Rattle.site_spec.specs.Site.{SomeOf}
use Rattle.site_build.specs.Gains.{Gains}
use Rattle.site_build.specs.Materialised.{IsSumUnder}
use Rattle.site_build.proofs.sums.add_sums.Given as goal

abbrev pub invariant-loop-link : goal.invariant-loop-link
invariant-loop-link l = Gains (λ j. SomeOf (λ k. IsSumUnder l.variables l.rows (link_of k) (link_of k).target j) (take l.link-index l.links)) l.initial.made.keys l.made.keys
