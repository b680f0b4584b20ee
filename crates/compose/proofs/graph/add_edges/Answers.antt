use Rattle.std.proofs.Common.{inl, inr}
use Rattle.std.proofs.lemmas.Result.{err_from_is_err_and}
use Rattle.compose.specs.Stated.{IsDataStated, IsSiteStated, IsStated}
use Rattle.compose.proofs.Adding.{cut_as, adds_two}
use Rattle.compose.proofs.graph.add_edges.Goals as goal

pub returns-in_err-add_data-clause-added : goal.returns-in_err-add_data-clause-added
returns-in_err-add_data-clause-added g c =
    let p = err_from_is_err_and c.from_residual.result c.from_residual.ensures.1 in
    let e = c.in_err-add_data.field-0.0 in
    rw (p.1, p.2)
    (cut_as (IsDataStated c.args.graph.now) (IsStated (g.V.SiteView.site (g.V.SiteView.fixed c.args.view.now))
    c.args.graph.now c.args.pages.now c.args.labels.now c.args.collections.now)
    (λ s h. inl h) c.args.builder.now c.add_data.new.builder c.add_data.new.builder e
    c.in_err-add_data.ensures)

pub returns-clause-added : goal.returns-clause-added
returns-clause-added g c =
    adds_two (IsDataStated c.args.graph.now) (IsSiteStated (g.V.SiteView.site (g.V.SiteView.fixed c.args.view.now))
    c.args.pages.now c.args.labels.now c.args.collections.now)
    (IsStated (g.V.SiteView.site (g.V.SiteView.fixed c.args.view.now)) c.args.graph.now c.args.pages.now
    c.args.labels.now c.args.collections.now)
    (λ s h. inl h) (λ s h. inr h) c.args.builder.now c.add_data.new.builder c.add_site.new.builder c.add_site.result
    (λ s h. h)
    c.in_ok-add_data.ensures
    c.add_site.ensures.added
