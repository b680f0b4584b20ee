use Rattle.std.proofs.Common.{take}
use Rattle.struql_ast.specs.declared.Collect.{Collect}
use Rattle.struql_ast.specs.Reading.{collect_of}
use Rattle.site_spec.specs.Site.{SomeOf, target_terms}
use Rattle.site_build.specs.Gains.{Gains}
use Rattle.site_build.proofs.Written.{NamedBy}
use Rattle.site_build.proofs.terms.add_collect_terms.Given as goal

abbrev pub invariant-loop-collect : goal.invariant-loop-collect
invariant-loop-collect l = Gains (λ p. SomeOf (λ (k : Collect). NamedBy l.variables l.rows (target_terms (collect_of k).target) p) (take l.collect-index l.collects)) l.initial.made.keys l.made.keys
