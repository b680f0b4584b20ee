use Rattle.std.proofs.Common.{◌∙◌, refl, subst, Err}
use Rattle.std.proofs.lemmas.Result.{err_from_is_err_and}
use Rattle.sd_value.specs.declared.Term.{Term}
use Rattle.graph_spec.specs.Statement.{Statement}
use Rattle.compose.specs.Adding.{Gains, AddsAll}
use Rattle.compose.specs.Stated.{IsLinkOf}
use Rattle.compose.proofs.Adding.{each_nil, each_next, each_cut, each_end}
use Rattle.compose.proofs.links.add_links.Goals as goal

pub loop-page-init : goal.loop-page-init
loop-page-init g c = record {
  own = c.requires.own;
  fixed = refl;
  added = each_nil (λ (z : Term) (s : Statement). IsLinkOf (g.V.SiteView.site (g.V.SiteView.fixed c.args.view.now))
      c.args.labels.now z s) c.args.builder.now;
}

pub returns-in_err-add_links_of-clause-added : goal.returns-in_err-add_links_of-clause-added
returns-in_err-add_links_of-clause-added g c =
    let p = err_from_is_err_and c.from_residual.result c.from_residual.ensures.1 in
    let e = c.in_err-add_links_of.field-0.0 in
    rw (p.1, p.2)
    (each_cut (λ (z : Term) (s : Statement). IsLinkOf (g.V.SiteView.site (g.V.SiteView.fixed c.args.view.now))
    c.args.labels.now z s) c.args.pages.now c.loop-page.page-index c.page-item.result c.args.builder.now
    c.loop-page.builder c.add_links_of.new.builder c.add_links_of.new.builder
    e c.loop-page-test.true c.page-item.is c.loop-page.invariant.added
    (subst (λ x. AddsAll (IsLinkOf (g.V.SiteView.site x) c.args.labels.now c.page-item.result) c.loop-page.builder
    c.add_links_of.new.builder (Err e)) c.loop-page.invariant.fixed c.in_err-add_links_of.ensures.added))

pub loop-page-preserved : goal.loop-page-preserved
loop-page-preserved g c = record {
  own = c.add_links_of.ensures.own;
  fixed = c.add_links_of.ensures.fixed ∙ c.loop-page.invariant.fixed;
  added =
      each_next (λ (z : Term) (s : Statement). IsLinkOf (g.V.SiteView.site (g.V.SiteView.fixed c.args.view.now))
      c.args.labels.now z s) c.args.pages.now c.loop-page.page-index c.page-item.result c.args.builder.now
      c.loop-page.builder c.add_links_of.new.builder
      c.loop-page-test.true c.page-item.is c.loop-page.invariant.added
      (subst (λ x. Gains (IsLinkOf (g.V.SiteView.site x) c.args.labels.now c.page-item.result) c.loop-page.builder
      c.add_links_of.new.builder) c.loop-page.invariant.fixed c.in_ok-add_links_of.ensures.added);
}

pub returns-clause-added : goal.returns-clause-added
returns-clause-added g c =
    each_end (λ (z : Term) (s : Statement). IsLinkOf (g.V.SiteView.site (g.V.SiteView.fixed c.args.view.now))
    c.args.labels.now z s) c.args.pages.now c.loop-page.page-index c.args.builder.now c.loop-page.builder
    c.loop-page-test.false c.loop-page.invariant.added
