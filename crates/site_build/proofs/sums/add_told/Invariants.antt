use Rattle.std.proofs.Common.{take}
use Rattle.struql_ast.specs.Reading.{aggregate_of}
use Rattle.site_spec.specs.Site.{SomeOf}
use Rattle.site_build.specs.Gains.{Gains}
use Rattle.site_build.specs.Sums.{ToldHere}
use Rattle.site_build.proofs.sums.add_told.Given as goal

abbrev pub invariant-loop-i : goal.invariant-loop-i
invariant-loop-i l = Gains (λ j. SomeOf (λ p. ToldHere (aggregate_of l.aggregate) l.parts p j) (take l.i l.parts)) l.initial.made.keys l.made.keys
