use Rattle.std.proofs.Common.{◌∷◌, ◌++◌, [], ◌∙◌, refl, sym, subst, arith}
use Rattle.std.proofs.lemmas.List.{take_all}
use Rattle.page_spec.specs.Site.{row_cmp}
use Rattle.render.specs.Rows.{HasRow, HasFirstOf}
use Rattle.sd_value.specs.Gathered.{Gathered}
use Rattle.sd_value.proofs.Gathering.{gathered_none, gathered_all}
use Rattle.render.proofs.Keys.{rows_more}
use Rattle.render.proofs.Firsts.{firsts_none, firsts_end}
use Rattle.render.specs.Asks.{KeysAsks}
use Rattle.render.proofs.Asked.{keeps_none, keeps_then, item_in}
use Rattle.render.proofs.order.with_places.Goals as goal

pub loop-value-init : goal.loop-value-init
loop-value-init g c =
    let keys = c.args.key.now ∷ c.args.more.now in
    record {
      own = c.requires.own;
      fixed = refl;
      seen = ([], gathered_none (HasRow (g.V.SiteView.site (g.V.SiteView.fixed c.args.view.now)) keys), subst (HasFirstOf c.args.limit []) (sym c.new-rows.ensures.items) (firsts_none c.args.limit));
      kept = keeps_none;
    }

pub loop-value-preserved : goal.loop-value-preserved
loop-value-preserved g c =
    let s = g.V.SiteView.site (g.V.SiteView.fixed c.args.view.now) in
    let keys = c.args.key.now ∷ c.args.more.now in
    let v = c.value-item.result in
    let row = c.in_ok-row.row in
    let has = subst (λ x. HasRow (g.V.SiteView.site x) keys v row) c.loop-value.invariant.fixed c.in_ok-row.ensures.answer in
    let was = c.loop-value.invariant.seen in
    record {
      own = c.row_of.ensures.own;
      fixed = c.row_of.ensures.fixed ∙ c.loop-value.invariant.fixed;
      seen = (was.0 ++ row ∷ [], rows_more s keys c.args.values.now c.loop-value.value-index v row.value row.places was.0 (omega arith) c.value-item.is has.0 has.1 was.1, c.in_ok-add_row.ensures was.0 was.2);
      kept = keeps_then c.loop-value.invariant.kept (λ q h. (v, item_in c.args.values.now c.loop-value.value-index v (omega arith) c.value-item.is, subst (λ x. KeysAsks (g.V.SiteView.site x) keys v q) c.loop-value.invariant.fixed h)) c.row_of.ensures.kept;
    }

pub returns-clause-answer : goal.returns-clause-answer
returns-clause-answer g c =
    let e = HasRow (g.V.SiteView.site (g.V.SiteView.fixed c.args.view.now)) (c.args.key.now ∷ c.args.more.now) in
    let all = take_all c.loop-value.value-index c.args.values.now (omega arith) in
    let was = c.loop-value.invariant.seen in
    let end = firsts_end c.args.limit was.0 c.loop-value.rows.items c.keep_first.new.rows.items was.2 c.keep_first.ensures in
    (end.0, gathered_all row_cmp e c.args.values.now was.0 end.0 (subst (λ f. Gathered e f was.0) all was.1) end.1, end.2)

pub returns-in_err-row-clause-kept : goal.returns-in_err-row-clause-kept
returns-in_err-row-clause-kept g c =
    let keys = c.args.key.now ∷ c.args.more.now in
    keeps_then c.loop-value.invariant.kept (λ q h. (c.value-item.result, item_in c.args.values.now c.loop-value.value-index c.value-item.result (omega arith) c.value-item.is, subst (λ x. KeysAsks (g.V.SiteView.site x) keys c.value-item.result q) c.loop-value.invariant.fixed h)) c.row_of.ensures.kept

pub returns-in_err-add_row-clause-kept : goal.returns-in_err-add_row-clause-kept
returns-in_err-add_row-clause-kept g c =
    let keys = c.args.key.now ∷ c.args.more.now in
    keeps_then c.loop-value.invariant.kept (λ q h. (c.value-item.result, item_in c.args.values.now c.loop-value.value-index c.value-item.result (omega arith) c.value-item.is, subst (λ x. KeysAsks (g.V.SiteView.site x) keys c.value-item.result q) c.loop-value.invariant.fixed h)) c.row_of.ensures.kept
