use Rattle.std.proofs.Common.{List, length, ap}
use Rattle.std.specs.Prelude.{◌==◌}
use Rattle.sd_value.specs.declared.Value.{Value}
use Rattle.constraint_report.proofs.EachPage.{links_once}
use Rattle.constraint_report.proofs.pages.links_once.Goals as goal

pub returns-clause-answer : goal.returns-clause-answer
returns-clause-answer g c =
    links_once (g.V.SiteView.site (g.V.SiteView.fixed c.args.view.now)) c.args.page.now c.args.label.now c.in_ok-ends.ends.items c.in_ok-ends.ensures.answer (length c.as_slice.result.now == 1)
    (ap (λ (vs : List Value). length vs == 1) c.as_slice.ensures.value)
