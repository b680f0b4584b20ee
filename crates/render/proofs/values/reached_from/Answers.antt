use Rattle.std.proofs.Common.{◌∙◌, ◌-◌, length, take, drop, sym, subst, arith}
use Rattle.std.specs.Prelude.{Contains}
use Rattle.sd_value.specs.declared.Value.{Value}
use Rattle.sd_value.specs.Order.{value_cmp}
use Rattle.sd_value.specs.Ascending.{ListsExactly}
use Rattle.page_spec.specs.Site.{Reaches}
use Rattle.render.specs.Asks.{WordAsks}
use Rattle.render.proofs.Room.{ok_then}
use Rattle.render.proofs.Keys.{first_rest, none_below}
use Rattle.render.proofs.Reached.{reached_alone, reached_by_first}
use Rattle.render.proofs.Asked.{keeps_one, keeps_then, first_asks, later_asks}
use Rattle.render.proofs.values.reached_from.Goals as goal

pub returns-in-empty-clause-answer : goal.returns-in-empty-clause-answer
returns-in-empty-clause-answer g c =
    let s = g.V.SiteView.site (g.V.SiteView.fixed c.args.view.now) in
    let none = sym c.labels.ensures ∙ none_below c.labels.result.now (omega arith) in
    ok_then _ _ c.alone.result
    (λ vs is. reached_alone s c.args.word.now c.args.value.now vs.items none is)
    c.alone.ensures

pub returns-in_err-ends-in-len1-up-clause-kept : goal.returns-in_err-ends-in-len1-up-clause-kept
returns-in_err-ends-in-len1-up-clause-kept g c =
    let s = g.V.SiteView.site (g.V.SiteView.fixed c.args.view.now) in
    let labels = c.labels.result.now in
    let more = take (length labels - 1) (drop 1 labels) in
    let is = sym c.labels.ensures ∙ first_rest labels c.label-item.result (omega arith) c.label-item.is in
    keeps_one (first_asks s c.args.word.now c.label-item.result more c.args.value.now is) c.out.ensures.kept

pub returns-in_err-values-in-len1-up-clause-kept :
    goal.returns-in_err-values-in-len1-up-clause-kept
returns-in_err-values-in-len1-up-clause-kept g c =
    let s = g.V.SiteView.site (g.V.SiteView.fixed c.args.view.now) in
    let labels = c.labels.result.now in
    let more = take (length labels - 1) (drop 1 labels) in
    let is = sym c.labels.ensures ∙ first_rest labels c.label-item.result (omega arith) c.label-item.is in
    let ends = c.in_ok-ends-in-len1-up.ends.items in
    keeps_then (keeps_one (first_asks s c.args.word.now c.label-item.result more c.args.value.now is) c.out.ensures.kept)
    (λ q h. later_asks s c.args.word.now c.label-item.result more c.args.value.now ends q is c.in_ok-ends-in-len1-up.ensures.answer (subst (λ x. WordAsks (g.V.SiteView.site x) (Contains ends) more q) c.out.ensures.fixed h))
    c.reached.ensures.kept

pub returns-in_ok-values-in-len1-up-clause-kept : goal.returns-in_ok-values-in-len1-up-clause-kept
returns-in_ok-values-in-len1-up-clause-kept g c =
    let s = g.V.SiteView.site (g.V.SiteView.fixed c.args.view.now) in
    let labels = c.labels.result.now in
    let more = take (length labels - 1) (drop 1 labels) in
    let is = sym c.labels.ensures ∙ first_rest labels c.label-item.result (omega arith) c.label-item.is in
    let ends = c.in_ok-ends-in-len1-up.ends.items in
    keeps_then (keeps_one (first_asks s c.args.word.now c.label-item.result more c.args.value.now is) c.out.ensures.kept)
    (λ q h. later_asks s c.args.word.now c.label-item.result more c.args.value.now ends q is c.in_ok-ends-in-len1-up.ensures.answer (subst (λ x. WordAsks (g.V.SiteView.site x) (Contains ends) more q) c.out.ensures.fixed h))
    c.reached.ensures.kept

pub returns-in_ok-values-in-len1-up-clause-answer :
    goal.returns-in_ok-values-in-len1-up-clause-answer
returns-in_ok-values-in-len1-up-clause-answer g c =
    let s = g.V.SiteView.site (g.V.SiteView.fixed c.args.view.now) in
    let labels = c.labels.result.now in
    let more = take (length labels - 1) (drop 1 labels) in
    let is = sym c.labels.ensures ∙ first_rest labels c.label-item.result (omega arith) c.label-item.is in
    let ends = c.in_ok-ends-in-len1-up.ends.items in
    let vs = c.in_ok-values-in-len1-up.values.items in
    reached_by_first s c.args.word.now c.label-item.result more c.args.value.now ends vs is c.in_ok-ends-in-len1-up.ensures.answer (subst (λ x. ListsExactly value_cmp (λ w. (u : Value) × Contains ends u × Reaches (g.V.SiteView.site x) u more w) vs) c.out.ensures.fixed c.in_ok-values-in-len1-up.ensures.answer)
