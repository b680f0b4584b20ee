use Rattle.std.proofs.Common.{◌∙◌, List, length, ap}
use Rattle.std.specs.Prelude.{◌==◌}
use Rattle.sd_value.specs.declared.Value.{Value}
use Rattle.constraint_report.proofs.EachPage.{links_never}
use Rattle.constraint_report.proofs.pages.links_never.Goals as goal

pub returns-clause-answer : goal.returns-clause-answer
returns-clause-answer g c =
    links_never (g.V.SiteView.site (g.V.SiteView.fixed c.args.view.now)) c.args.page.now c.args.label.now c.in_ok-ends.ends.items c.in_ok-ends.ensures.answer c.is_empty.result
    (c.is_empty.ensures ∙ ap (λ (vs : List Value). length vs == 0) c.as_slice.ensures.value)
