use Rattle.std.proofs.Common.{take}
use Rattle.site_spec.specs.Site.{SomeOf}
use Rattle.site_lint.specs.Links.{ArcCarries}
use Rattle.site_lint.proofs.links.some_carries.Given as goal

abbrev pub invariant-loop-link : goal.invariant-loop-link
invariant-loop-link g l = SomeOf (ArcCarries (g.L.LinkAnswers.query l.answers).version l.label) (take l.link-index l.links) → ⊥
