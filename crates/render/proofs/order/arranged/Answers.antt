use Rattle.std.proofs.Common.{◌∷◌, List, ◌∙◌, ◌-◌, length, take, drop, sym, ap, subst, inl, inr, arith}
use Rattle.std.specs.Prelude.{Contains}
use Rattle.sd_value.specs.declared.Value.{Value}
use Rattle.sd_value.specs.Ascending.{ListsExactly}
use Rattle.page_spec.specs.declared.Keyed.{Keyed}
use Rattle.tmpl.specs.declared.SortKey.{SortKey}
use Rattle.page_spec.specs.Site.{row_cmp, limited}
use Rattle.render.specs.Rows.{HasRow, first_rows}
use Rattle.render.proofs.Keys.{first_rest, none_below}
use Rattle.render.proofs.Firsts.{by_keys, by_no_key}
use Rattle.render.specs.Asks.{KeysAsks}
use Rattle.render.proofs.Asked.{keeps_as, keeps_then}
use Rattle.render.proofs.order.arranged.Goals as goal

pub returns-in_err-values-clause-kept : goal.returns-in_err-values-clause-kept
returns-in_err-values-clause-kept g c = keeps_as (λ q h. inl h) c.range.ensures.kept

pub returns-in-empty-clause-kept : goal.returns-in-empty-clause-kept
returns-in-empty-clause-kept g c = keeps_as (λ q h. inl h) c.range.ensures.kept

pub returns-in-empty-clause-answer : goal.returns-in-empty-clause-answer
returns-in-empty-clause-answer g c =
    let s = g.V.SiteView.site (g.V.SiteView.fixed c.args.view.now) in
    let none = sym c.list.ensures ∙ none_below c.list.result.now (omega arith) in
    by_no_key s record { here = c.args.here.now; loops = c.args.loops.now } c.args.expr.now c.args.order.now c.in_ok-values.values.items _ none c.in_ok-values.ensures.answer (c.limited.ensures ∙ ap (limited c.args.order.now.limit) c.turned.ensures)

pub returns-in_err-rows-in-len1-up-clause-kept : goal.returns-in_err-rows-in-len1-up-clause-kept
returns-in_err-rows-in-len1-up-clause-kept g c =
    let list = c.list.result.now in
    let is = sym (first_rest list c.key-item.result (omega arith) c.key-item.is) ∙ c.list.ensures in
    keeps_then (keeps_as (λ q h. inl h) c.range.ensures.kept)
    (λ q h. inr (h.0, c.in_ok-values.ensures.answer.sound h.0 (subst (λ (l : List Value). Contains l h.0) c.as_slice.ensures.value h.1), subst (λ x. KeysAsks (g.V.SiteView.site x) c.args.order.now.keys h.0 q) c.range.ensures.fixed (subst (λ (ks : List SortKey). KeysAsks (g.V.SiteView.site (g.V.SiteView.fixed c.range.new.view)) ks h.0 q) is h.2)))
    c.with_places.ensures.kept

pub returns-in_err-arranged-in-len1-up-clause-kept :
    goal.returns-in_err-arranged-in-len1-up-clause-kept
returns-in_err-arranged-in-len1-up-clause-kept g c =
    let list = c.list.result.now in
    let is = sym (first_rest list c.key-item.result (omega arith) c.key-item.is) ∙ c.list.ensures in
    keeps_then (keeps_as (λ q h. inl h) c.range.ensures.kept)
    (λ q h. inr (h.0, c.in_ok-values.ensures.answer.sound h.0 (subst (λ (l : List Value). Contains l h.0) c.as_slice.ensures.value h.1), subst (λ x. KeysAsks (g.V.SiteView.site x) c.args.order.now.keys h.0 q) c.range.ensures.fixed (subst (λ (ks : List SortKey). KeysAsks (g.V.SiteView.site (g.V.SiteView.fixed c.range.new.view)) ks h.0 q) is h.2)))
    c.with_places.ensures.kept

pub returns-in_ok-arranged-in-len1-up-clause-kept :
    goal.returns-in_ok-arranged-in-len1-up-clause-kept
returns-in_ok-arranged-in-len1-up-clause-kept g c =
    let list = c.list.result.now in
    let is = sym (first_rest list c.key-item.result (omega arith) c.key-item.is) ∙ c.list.ensures in
    keeps_then (keeps_as (λ q h. inl h) c.range.ensures.kept)
    (λ q h. inr (h.0, c.in_ok-values.ensures.answer.sound h.0 (subst (λ (l : List Value). Contains l h.0) c.as_slice.ensures.value h.1), subst (λ x. KeysAsks (g.V.SiteView.site x) c.args.order.now.keys h.0 q) c.range.ensures.fixed (subst (λ (ks : List SortKey). KeysAsks (g.V.SiteView.site (g.V.SiteView.fixed c.range.new.view)) ks h.0 q) is h.2)))
    c.with_places.ensures.kept

pub returns-in_ok-arranged-in-len1-up-clause-answer :
    goal.returns-in_ok-arranged-in-len1-up-clause-answer
returns-in_ok-arranged-in-len1-up-clause-answer g c =
    let s = g.V.SiteView.site (g.V.SiteView.fixed c.args.view.now) in
    let o = c.args.order.now in
    let list = c.list.result.now in
    let keys = c.key-item.result ∷ take (length list - 1) (drop 1 list) in
    let is = sym (first_rest list c.key-item.result (omega arith) c.key-item.is) ∙ c.list.ensures in
    let was = c.in_ok-rows-in-len1-up.ensures.answer in
    let here = subst (λ x. ListsExactly row_cmp (λ (r : Keyed). (v : Value) × Contains c.as_slice.result.now v × HasRow (g.V.SiteView.site x) keys v r) was.0) c.range.ensures.fixed was.1 in
    let exact = subst (λ (l : List Value). ListsExactly row_cmp (λ (r : Keyed). (v : Value) × Contains l v × HasRow s keys v r) was.0) c.as_slice.ensures.value here in
    by_keys s record { here = c.args.here.now; loops = c.args.loops.now } c.args.expr.now o keys c.in_ok-values.values.items _ c.in_ok-arranged-in-len1-up.arranged.items c.in_ok-rows-in-len1-up.rows.items was.0 is c.in_ok-values.ensures.answer exact (was.2 ∙ ap (λ l. first_rows l was.0) c.first_limit-limit.ensures) c.in_ok-arranged-in-len1-up.ensures (c.limited-in-len1-up.ensures ∙ ap (limited o.limit) c.turned-in-len1-up.ensures)
