use Rattle.std.proofs.Common.{◌≡◌, ◌↔◌, ◌∙◌, refl, sym, subst}
use Rattle.std.specs.Prelude.{IsTrue}
use Rattle.std.proofs.lemmas.Bool.{false≢true}
use Rattle.sd_value.specs.Members.{among_at}
use Rattle.constraint_report.specs.Links.{Agrees, HasReached}
use Rattle.constraint_report.proofs.EachPage.{each_none, each_more, each_all}
use Rattle.constraint_report.proofs.Whole.{all_agree, each_agrees}
use Rattle.constraint_report.proofs.here.holds_here.Goals as goal

pub loop-page-init : goal.loop-page-init
loop-page-init g c = record {
  own = c.reached_for.ensures.own;
  fixed = c.reached_for.ensures.fixed;
  each = each_none (Agrees (g.V.SiteView.site (g.V.SiteView.fixed c.args.view.now)) c.args.constraint.now);
}

pub agrees-requires-clause-reached : goal.agrees-requires-clause-reached
agrees-requires-clause-reached g c =
    subst (λ x. HasReached (g.V.SiteView.site x) c.args.constraint.now c.in_ok-reached.reached.keys) (sym c.loop-page.invariant.fixed) c.in_ok-reached.ensures.reached

pub loop-page-preserved : goal.loop-page-preserved
loop-page-preserved g c =
    let here = subst (λ x. IsTrue c.in_ok-met.met ↔ Agrees (g.V.SiteView.site x) c.args.constraint.now c.page-item.result) c.loop-page.invariant.fixed c.in_ok-met.ensures.answer in
    record {
      own = c.agrees.ensures.own;
      fixed = c.agrees.ensures.fixed ∙ c.loop-page.invariant.fixed;
      each =
          each_more (Agrees (g.V.SiteView.site (g.V.SiteView.fixed c.args.view.now)) c.args.constraint.now) c.args.terms.now c.loop-page.page-index c.page-item.result c.loop-page-test.true c.page-item.is
          c.loop-page.invariant.each (here.0 c.if-not-met.false);
    }

pub returns-then-not-met-clause-answer : goal.returns-then-not-met-clause-answer
returns-then-not-met-clause-answer g c =
    let site = g.V.SiteView.site (g.V.SiteView.fixed c.args.view.now) in
    let here = subst (λ x. IsTrue c.in_ok-met.met ↔ Agrees (g.V.SiteView.site x) c.args.constraint.now c.page-item.result) c.loop-page.invariant.fixed c.in_ok-met.ensures.answer in (
      λ h. absurd (false≢true h),
      λ holds.
          let agrees = each_agrees site c.args.terms.now c.args.labels.now c.requires.listed c.args.constraint.now holds c.page-item.result
          (among_at c.args.terms.now c.loop-page.page-index c.page-item.result c.page-item.result c.loop-page-test.true c.page-item.is refl) in
          sym c.if-not-met.true ∙ here.1 agrees,
    )

pub returns-clause-answer : goal.returns-clause-answer
returns-clause-answer g c =
    let site = g.V.SiteView.site (g.V.SiteView.fixed c.args.view.now) in (
      λ h.
          all_agree site c.args.terms.now c.args.labels.now c.requires.listed c.args.constraint.now
          (each_all (Agrees site c.args.constraint.now) c.args.terms.now c.loop-page.page-index c.loop-page-test.false c.loop-page.invariant.each),
      λ h. refl,
    )
