use Rattle.std.proofs.Common.{◌∙◌, refl, subst, Err}
use Rattle.std.proofs.lemmas.Result.{err_from_is_err_and}
use Rattle.sd_value.specs.Names.{Label}
use Rattle.graph_spec.specs.Statement.{Statement}
use Rattle.compose.specs.Adding.{Gains, AddsAll}
use Rattle.compose.specs.Stated.{IsLinkBy}
use Rattle.compose.proofs.Adding.{each_nil, each_next, each_cut, each_end}
use Rattle.compose.proofs.links.add_links_under.Goals as goal

pub loop-label-init : goal.loop-label-init
loop-label-init g c = record {
  own = c.requires.own;
  fixed = refl;
  added = each_nil (λ (z : Label) (s : Statement). IsLinkBy (g.V.SiteView.site (g.V.SiteView.fixed c.args.view.now))
      c.args.page.now c.args.name.now z s) c.args.builder.now;
}

pub returns-in_err-add_links_by-clause-added : goal.returns-in_err-add_links_by-clause-added
returns-in_err-add_links_by-clause-added g c =
    let p = err_from_is_err_and c.from_residual.result c.from_residual.ensures.1 in
    let e = c.in_err-add_links_by.field-0.0 in
    rw (p.1, p.2)
    (each_cut (λ (z : Label) (s : Statement). IsLinkBy (g.V.SiteView.site (g.V.SiteView.fixed c.args.view.now))
    c.args.page.now c.args.name.now z s) c.args.labels.now c.loop-label.label-index c.label-item.result
    c.args.builder.now c.loop-label.builder c.add_links_by.new.builder c.add_links_by.new.builder
    e c.loop-label-test.true c.label-item.is c.loop-label.invariant.added
    (subst (λ x. AddsAll (IsLinkBy (g.V.SiteView.site x) c.args.page.now c.args.name.now c.label-item.result)
    c.loop-label.builder c.add_links_by.new.builder (Err e)) c.loop-label.invariant.fixed
    c.in_err-add_links_by.ensures.added))

pub loop-label-preserved : goal.loop-label-preserved
loop-label-preserved g c = record {
  own = c.add_links_by.ensures.own;
  fixed = c.add_links_by.ensures.fixed ∙ c.loop-label.invariant.fixed;
  added =
      each_next (λ (z : Label) (s : Statement). IsLinkBy (g.V.SiteView.site (g.V.SiteView.fixed c.args.view.now))
      c.args.page.now c.args.name.now z s) c.args.labels.now c.loop-label.label-index c.label-item.result
      c.args.builder.now c.loop-label.builder c.add_links_by.new.builder
      c.loop-label-test.true c.label-item.is c.loop-label.invariant.added
      (subst (λ x. Gains (IsLinkBy (g.V.SiteView.site x) c.args.page.now c.args.name.now c.label-item.result)
      c.loop-label.builder c.add_links_by.new.builder) c.loop-label.invariant.fixed
      c.in_ok-add_links_by.ensures.added);
}

pub returns-clause-added : goal.returns-clause-added
returns-clause-added g c =
    each_end (λ (z : Label) (s : Statement). IsLinkBy (g.V.SiteView.site (g.V.SiteView.fixed c.args.view.now))
    c.args.page.now c.args.name.now z s) c.args.labels.now c.loop-label.label-index c.args.builder.now
    c.loop-label.builder c.loop-label-test.false c.loop-label.invariant.added
