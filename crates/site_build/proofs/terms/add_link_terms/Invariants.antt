use Rattle.std.proofs.Common.{take}
use Rattle.struql_ast.specs.declared.Link.{Link}
use Rattle.struql_ast.specs.Reading.{link_of}
use Rattle.site_spec.specs.Site.{SomeOf, ends_of}
use Rattle.site_build.specs.Gains.{Gains}
use Rattle.site_build.proofs.Written.{NamedBy}
use Rattle.site_build.proofs.terms.add_link_terms.Given as goal

abbrev pub invariant-loop-link : goal.invariant-loop-link
invariant-loop-link l = Gains (λ p. SomeOf (λ (k : Link). NamedBy l.variables l.rows (ends_of (link_of k)) p) (take l.link-index l.links)) l.initial.made.keys l.made.keys
