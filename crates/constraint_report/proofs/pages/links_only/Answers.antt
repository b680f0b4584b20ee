use Rattle.std.proofs.Common.{◌↔◌, List, subst}
use Rattle.std.specs.Prelude.{Contains, IsTrue}
use Rattle.sd_value.specs.declared.Value.{Value}
use Rattle.site_spec.specs.Site.{SomeOf}
use Rattle.constraint_spec.specs.Meets.{IsPageOf}
use Rattle.constraint_report.proofs.EachPage.{links_only}
use Rattle.constraint_report.proofs.pages.links_only.Goals as goal

pub returns-clause-answer : goal.returns-clause-answer
returns-clause-answer g c =
    links_only (g.V.SiteView.site (g.V.SiteView.fixed c.args.view.now)) c.args.page.now c.args.label.now c.in_ok-ends.ends.items c.in_ok-ends.ensures.answer c.args.target.now c.are_pages_of.result
    (subst (λ (vs : List Value). IsTrue c.are_pages_of.result ↔ ((v : Value) → Contains vs v → IsPageOf c.args.target.now v)) c.as_slice.ensures.value c.are_pages_of.ensures)
