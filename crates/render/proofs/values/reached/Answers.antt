use Rattle.std.proofs.Common.{ℕ, List, subst, arith, ◌∙◌}
use Rattle.std.specs.Prelude.{Contains}
use Rattle.std.proofs.lemmas.List.{take_all}
use Rattle.sd_value.specs.declared.Value.{Value}
use Rattle.sd_value.specs.Order.{value_cmp}
use Rattle.sd_value.specs.Ascending.{ListsExactly}
use Rattle.page_spec.specs.Site.{Reaches}
use Rattle.render.proofs.Reached.{reached_more}
use Rattle.render.proofs.Asked.{keeps_then, passes_at}
use Rattle.render.proofs.values.reached.Goals as goal

pub loop-label-preserved : goal.loop-label-preserved
loop-label-preserved g c =
    let ends = subst (λ x. ListsExactly value_cmp (λ v. (m : Value) × Contains c.loop-label.at.items m × (g.V.SiteView.site x).edge m c.label-item.result v) c.in_ok-at.at.items) c.loop-label.invariant.fixed (let h : ListsExactly value_cmp (λ v. (m : Value) × Contains c.loop-label.at.items m × (g.V.SiteView.site (g.V.SiteView.fixed c.loop-label.view)).edge m c.label-item.result v) c.in_ok-at.at.items = rw (← c.as_slice.ensures.value) c.in_ok-at.ensures.answer in h) in
    record {
      own = c.step.ensures.own;
      fixed = c.step.ensures.fixed ∙ c.loop-label.invariant.fixed;
      exact = reached_more value_cmp (g.V.SiteView.site (g.V.SiteView.fixed c.args.view.now)) c.args.from.items c.args.word.now c.loop-label.label-index c.label-item.result c.loop-label.at.items c.in_ok-at.at.items (omega arith) c.label-item.is c.loop-label.invariant.exact ends;
      kept = keeps_then c.loop-label.invariant.kept
          (λ q h. let r = c.loop-label.invariant.exact.sound h.0 (subst (λ (l : List Value). Contains l h.0) c.as_slice.ensures.value h.1) in (h.0, c.label-item.result, h.2, (r.0, r.1, passes_at (g.V.SiteView.site (g.V.SiteView.fixed c.args.view.now)) r.0 c.args.word.now c.loop-label.label-index c.label-item.result h.0 (omega arith) c.label-item.is r.2)))
          c.step.ensures.kept;
    }

pub returns-clause-answer : goal.returns-clause-answer
returns-clause-answer g c =
    let all = take_all c.loop-label.label-index c.args.word.now (omega arith) in
    subst (λ (w : List (List ℕ)). ListsExactly value_cmp (λ v. (u : Value) × Contains c.args.from.items u × Reaches (g.V.SiteView.site (g.V.SiteView.fixed c.args.view.now)) u w v) c.loop-label.at.items) all c.loop-label.invariant.exact

pub returns-in_err-at-clause-kept : goal.returns-in_err-at-clause-kept
returns-in_err-at-clause-kept g c =
    keeps_then c.loop-label.invariant.kept
    (λ q h. let r = c.loop-label.invariant.exact.sound h.0 (subst (λ (l : List Value). Contains l h.0) c.as_slice.ensures.value h.1) in (h.0, c.label-item.result, h.2, (r.0, r.1, passes_at (g.V.SiteView.site (g.V.SiteView.fixed c.args.view.now)) r.0 c.args.word.now c.loop-label.label-index c.label-item.result h.0 (omega arith) c.label-item.is r.2)))
    c.step.ensures.kept
