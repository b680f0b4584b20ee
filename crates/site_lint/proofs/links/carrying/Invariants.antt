use Rattle.std.proofs.Common.{take}
use Rattle.site_lint.proofs.LinkLaws.{AreFound}
use Rattle.site_lint.proofs.links.carrying.Given as goal

abbrev pub invariant-loop-link : goal.invariant-loop-link
invariant-loop-link g l = AreFound (g.L.LinkAnswers.query l.answers).version l.labels (take l.link-index l.link-items) l.found.items
