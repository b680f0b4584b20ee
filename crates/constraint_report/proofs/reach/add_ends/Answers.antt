use Rattle.std.proofs.Common.{◌≡◌, List, subst}
use Rattle.sd_value.specs.declared.Term.{Term}
use Rattle.sd_value.specs.declared.Value.{Value}
use Rattle.sd_value.specs.declared.Value.TheVariants.{Page}
use Rattle.site_spec.specs.Site.{SomeOf}
use Rattle.constraint_report.specs.Links.{Adds}
use Rattle.constraint_report.proofs.Reaching.{next_from}
use Rattle.constraint_report.proofs.reach.add_ends.Goals as goal

pub returns-clause-added : goal.returns-clause-added
returns-clause-added g c =
    next_from (g.V.SiteView.site (g.V.SiteView.fixed c.args.view.now)) c.args.page.now c.args.label.now c.in_ok-ends.ends.items c.args.found.now.keys c.add_pages.new.found.keys c.in_ok-ends.ensures.answer
    (subst (λ (vs : List Value). Adds (λ (t : Term). SomeOf (λ (v : Value). v ≡ Page t) vs) c.args.found.now.keys c.add_pages.new.found.keys) c.as_slice.ensures.value c.in_ok-add_pages.ensures)
