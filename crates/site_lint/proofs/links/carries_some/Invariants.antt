use Rattle.std.proofs.Common.{take}
use Rattle.site_spec.specs.Site.{SomeOf}
use Rattle.site_lint.specs.Links.{ArcCarries}
use Rattle.site_lint.proofs.links.carries_some.Given as goal

abbrev pub invariant-loop-label : goal.invariant-loop-label
invariant-loop-label g l = SomeOf (λ m. ArcCarries (g.L.LinkAnswers.query l.answers).version m l.link) (take l.label-index l.labels) → ⊥
