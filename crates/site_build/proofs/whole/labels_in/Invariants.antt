use Rattle.std.proofs.Common.{◌≡◌, [], take}
use Rattle.site_spec.specs.Site.{SomeOf}
use Rattle.site_build.specs.declared.ordered.Joined.{Joined}
use Rattle.site_build.specs.Gains.{Gains}
use Rattle.site_build.proofs.whole.labels_in.Given as goal

abbrev pub invariant-loop-link : goal.invariant-loop-link
invariant-loop-link l = Gains (λ label. SomeOf (λ (j : Joined). j.label ≡ label) (take l.link-index l.links)) [] l.labels.keys
