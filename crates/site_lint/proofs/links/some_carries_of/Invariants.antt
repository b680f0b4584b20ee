use Rattle.std.proofs.Common.{take}
use Rattle.std.specs.Prelude.{Contains}
use Rattle.site_spec.specs.Site.{SomeOf}
use Rattle.site_lint.specs.Links.{ArcCarries}
use Rattle.site_lint.proofs.links.some_carries_of.Given as goal

abbrev pub invariant-loop-link : goal.invariant-loop-link
invariant-loop-link g l = SomeOf (λ a. Contains l.functions a.function.now × ArcCarries (g.L.LinkAnswers.query l.answers).version l.label a) (take l.link-index l.links) → ⊥
