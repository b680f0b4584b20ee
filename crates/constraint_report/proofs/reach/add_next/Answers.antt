use Rattle.std.proofs.Common.{◌∙◌, refl, subst}
use Rattle.sd_value.specs.declared.Term.{Term}
use Rattle.sd_value.specs.Names.{Label}
use Rattle.constraint_report.specs.Links.{Adds, IsNext}
use Rattle.constraint_report.proofs.Adding.{adds_nil, adds_next, adds_end}
use Rattle.constraint_report.proofs.reach.add_next.Goals as goal

pub loop-label-init : goal.loop-label-init
loop-label-init g c = record {
  own = c.requires.own;
  fixed = refl;
  added = adds_nil (λ (label : Label) (t : Term). IsNext (g.V.SiteView.site (g.V.SiteView.fixed c.args.view.now)) c.args.page.now label t) c.args.found.now.keys;
}

pub loop-label-preserved : goal.loop-label-preserved
loop-label-preserved g c = record {
  own = c.add_ends.ensures.own;
  fixed = c.add_ends.ensures.fixed ∙ c.loop-label.invariant.fixed;
  added =
      adds_next (λ (label : Label) (t : Term). IsNext (g.V.SiteView.site (g.V.SiteView.fixed c.args.view.now)) c.args.page.now label t) c.args.labels.now c.loop-label.label-index c.label-item.result
      c.args.found.now.keys c.loop-label.found.keys c.add_ends.new.found.keys c.loop-label-test.true c.label-item.is c.loop-label.invariant.added
      (subst (λ x. Adds (IsNext (g.V.SiteView.site x) c.args.page.now c.label-item.result) c.loop-label.found.keys c.add_ends.new.found.keys) c.loop-label.invariant.fixed c.in_ok-add_ends.ensures.added);
}

pub returns-clause-added : goal.returns-clause-added
returns-clause-added g c =
    adds_end (λ (label : Label) (t : Term). IsNext (g.V.SiteView.site (g.V.SiteView.fixed c.args.view.now)) c.args.page.now label t) c.args.labels.now c.loop-label.label-index
    c.args.found.now.keys c.loop-label.found.keys c.loop-label-test.false c.loop-label.invariant.added
