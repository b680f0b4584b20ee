use Rattle.std.proofs.Common.{subst}
use Rattle.std.proofs.lemmas.Result.{err_from_is_err_and}
use Rattle.sd_value.specs.Names.{Name, Label}
use Rattle.sd_value.specs.declared.Term.{Term}
use Rattle.sd_value.specs.declared.Value.TheVariants.{Page}
use Rattle.graph_spec.specs.Statement.{Statement}
use Rattle.page_spec.specs.Show.{address}
use Rattle.site_spec.specs.Site.{SomeOf}
use Rattle.compose.specs.Adding.{AddsAll}
use Rattle.compose.specs.Stated.{IsLinkBy}
use Rattle.compose.proofs.links.add_links_of.Goals as goal

pub returns-in_err-name-clause-added : goal.returns-in_err-name-clause-added
returns-in_err-name-clause-added g c =
    let p = err_from_is_err_and c.from_residual.result c.from_residual.ensures.1 in
    rw (p.1, p.2) tt

pub returns-in_err-copy-clause-added : goal.returns-in_err-copy-clause-added
returns-in_err-copy-clause-added g c =
    let p = err_from_is_err_and c.from_residual-in_err-copy.result c.from_residual-in_err-copy.ensures.1 in
    rw (p.1, p.2) tt

pub returns-clause-added : goal.returns-clause-added
returns-clause-added g c =
    let t = c.args.page.now in
    subst (λ (x : Term). AddsAll
    (λ (s : Statement). SomeOf (λ (label : Label). IsLinkBy (g.V.SiteView.site (g.V.SiteView.fixed c.args.view.now))
    (Page x) (address t) label s) c.args.labels.now) c.args.builder.now c.add_links_under.new.builder
    c.add_links_under.result) c.in_ok-copy.ensures
    (subst (λ (n : Name). AddsAll
    (λ (s : Statement). SomeOf (λ (label : Label). IsLinkBy (g.V.SiteView.site (g.V.SiteView.fixed c.args.view.now))
    (Page c.in_ok-copy.copy) n label s) c.args.labels.now) c.args.builder.now c.add_links_under.new.builder
    c.add_links_under.result) c.in_ok-name.ensures
    c.add_links_under.ensures.added)
