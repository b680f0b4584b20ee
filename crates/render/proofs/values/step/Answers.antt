use Rattle.std.proofs.Common.{subst, arith, ◌∙◌}
use Rattle.std.proofs.lemmas.List.{take_all}
use Rattle.sd_value.specs.Order.{value_cmp}
use Rattle.sd_value.specs.Ascending.{ListsExactly}
use Rattle.sd_value.specs.Gathered.{Gathered}
use Rattle.sd_value.proofs.Gathering.{gathered_more, gathered_all}
use Rattle.std.proofs.Common.{refl}
use Rattle.render.proofs.Asked.{keeps_ask, item_in}
use Rattle.render.proofs.values.step.Goals as goal

pub loop-value-preserved : goal.loop-value-preserved
loop-value-preserved g c =
    let here = subst (λ x. ListsExactly value_cmp ((g.V.SiteView.site x).edge c.value-item.result c.args.label.now) c.in_ok-more.more.items) c.loop-value.invariant.fixed c.in_ok-more.ensures.answer in
    record {
      own = c.out.ensures.own;
      fixed = c.out.ensures.fixed ∙ c.loop-value.invariant.fixed;
      gathered = rw c.in_ok-append.ensures.items (gathered_more value_cmp _ c.args.from.now c.loop-value.value-index c.value-item.result c.loop-value.ends.items c.in_ok-more.more.items (omega arith) c.value-item.is c.loop-value.invariant.gathered here);
      kept = keeps_ask c.loop-value.invariant.kept (c.value-item.result, item_in c.args.from.now c.loop-value.value-index c.value-item.result (omega arith) c.value-item.is, refl) c.out.ensures.kept;
    }

pub returns-clause-answer : goal.returns-clause-answer
returns-clause-answer g c =
    let all = take_all c.loop-value.value-index c.args.from.now (omega arith) in
    gathered_all value_cmp _ c.args.from.now c.loop-value.ends.items _ (subst (λ f. Gathered (λ m v. (g.V.SiteView.site (g.V.SiteView.fixed c.args.view.now)).edge m c.args.label.now v) f c.loop-value.ends.items) all c.loop-value.invariant.gathered) c.sort_and_dedup.ensures

pub returns-in_err-more-clause-kept : goal.returns-in_err-more-clause-kept
returns-in_err-more-clause-kept g c =
    keeps_ask c.loop-value.invariant.kept (c.value-item.result, item_in c.args.from.now c.loop-value.value-index c.value-item.result (omega arith) c.value-item.is, refl) c.out.ensures.kept

pub returns-in_err-append-clause-kept : goal.returns-in_err-append-clause-kept
returns-in_err-append-clause-kept g c =
    keeps_ask c.loop-value.invariant.kept (c.value-item.result, item_in c.args.from.now c.loop-value.value-index c.value-item.result (omega arith) c.value-item.is, refl) c.out.ensures.kept
