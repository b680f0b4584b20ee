use Rattle.std.proofs.Common.{◌≡◌, ◌∙◌, ap, sym, subst}
use Rattle.std.specs.Ordering.{eq_by_cmp}
use Rattle.indexmap.specs.IndexSet.{insert_key}
use Rattle.sd_value.specs.declared.Term.{Term}
use Rattle.sd_value.specs.declared.Value.{Value}
use Rattle.sd_value.specs.declared.Value.TheVariants.{Page}
use Rattle.sd_value.specs.Order.{term_cmp}
use Rattle.constraint_report.specs.Links.{Adds}
use Rattle.constraint_report.proofs.Adding.{adds_as, adds_none, adds_inserted}
use Rattle.constraint_report.proofs.EachPage.{same_term}
use Rattle.constraint_report.proofs.reach.add_page.Goals as goal

pub returns-in_ok-insert-in-Page : goal.returns-in_ok-insert-in-Page
returns-in_ok-insert-in-Page c =
    let old = c.args.found.now.keys in
    let new_page = c.in_ok-page-in-Page.page in
    let is : new_page ≡ c.in-Page.page = c.in_ok-page-in-Page.ensures in
    subst (Adds (λ (t : Term). c.args.value.now ≡ Page t) old) (sym c.in_ok-insert-in-Page.ensures.keys)
    (adds_as (λ (t : Term). new_page ≡ t) (λ (t : Term). c.args.value.now ≡ Page t) old (insert_key (eq_by_cmp term_cmp) old new_page)
    (λ t e. c.in-Page.is ∙ ap Page (sym is ∙ e))
    (λ t e. let pages : Page c.in-Page.page ≡ Page t = sym c.in-Page.is ∙ e in let same : c.in-Page.page ≡ t = cc in is ∙ same)
    (adds_inserted (eq_by_cmp term_cmp) same_term old new_page))

pub returns-in-Data : goal.returns-in-Data
returns-in-Data c = adds_none (λ (t : Term). c.args.value.now ≡ Page t) c.args.found.now.keys (λ t e. let both = sym c.in-Data.is ∙ e in cc)
