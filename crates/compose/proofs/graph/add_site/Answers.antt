use Rattle.std.proofs.Common.{inl, inr, subst}
use Rattle.std.proofs.lemmas.Result.{err_from_is_err_and}
use Rattle.compose.specs.Adding.{AddsAll}
use Rattle.compose.specs.Stated.{IsLink, IsPut, IsSiteStated}
use Rattle.compose.proofs.Adding.{cut_as, adds_two}
use Rattle.compose.proofs.graph.add_site.Goals as goal

pub returns-in_err-add_links-clause-added : goal.returns-in_err-add_links-clause-added
returns-in_err-add_links-clause-added g c =
    let p = err_from_is_err_and c.from_residual.result c.from_residual.ensures.1 in
    let e = c.in_err-add_links.field-0.0 in
    rw (p.1, p.2)
    (cut_as (IsLink (g.V.SiteView.site (g.V.SiteView.fixed c.args.view.now)) c.args.pages.now c.args.labels.now)
    (IsSiteStated (g.V.SiteView.site (g.V.SiteView.fixed c.args.view.now)) c.args.pages.now c.args.labels.now
    c.args.collections.now)
    (λ s h. inl h) c.args.builder.now c.add_links.new.builder c.add_links.new.builder e
    c.in_err-add_links.ensures.added)

pub returns-clause-added : goal.returns-clause-added
returns-clause-added g c =
    adds_two (IsLink (g.V.SiteView.site (g.V.SiteView.fixed c.args.view.now)) c.args.pages.now c.args.labels.now)
    (IsPut (g.V.SiteView.site (g.V.SiteView.fixed c.args.view.now)) c.args.collections.now)
    (IsSiteStated (g.V.SiteView.site (g.V.SiteView.fixed c.args.view.now)) c.args.pages.now c.args.labels.now
    c.args.collections.now)
    (λ s h. inl h) (λ s h. inr h) c.args.builder.now c.add_links.new.builder c.add_collections.new.builder
    c.add_collections.result (λ s h. h)
    c.in_ok-add_links.ensures.added
    (subst (λ x. AddsAll (IsPut (g.V.SiteView.site x) c.args.collections.now) c.add_links.new.builder
    c.add_collections.new.builder c.add_collections.result) c.add_links.ensures.fixed
    c.add_collections.ensures.added)
