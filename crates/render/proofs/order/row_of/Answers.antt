use Rattle.std.proofs.Common.{◌≡◌, ◌+◌, ◌∷◌, Option, Some, ◌∙◌, subst, arith, add-one}
use Rattle.sd_value.specs.declared.Value.{Value}
use Rattle.sd_value.specs.Members.{Contains-here, Contains-there}
use Rattle.key_spec.specs.Keys.{folded_text, folded_cmp}
use Rattle.page_spec.specs.Site.{IsLeast, places}
use Rattle.render.specs.Asks.{KeyAsks, KeysAsks}
use Rattle.render.proofs.Asked.{keeps_as, keeps_then, item_in}
use Rattle.render.proofs.Keys.{places_more, further_places}
use Rattle.render.proofs.order.row_of.Goals as goal

pub returns-in_err-place-clause-kept : goal.returns-in_err-place-clause-kept
returns-in_err-place-clause-kept g c =
    keeps_as (λ q h. (c.args.key.now, Contains-here c.args.key.now c.args.more.now, h)) c.places_by.ensures.kept

pub returns-in_err-next-clause-kept : goal.returns-in_err-next-clause-kept
returns-in_err-next-clause-kept g c =
    let keys = c.args.key.now ∷ c.args.more.now in
    let v = c.args.value.now in
    let further = c.further-item.result in
    let first = keeps_as (λ q h. (c.args.key.now, Contains-here c.args.key.now c.args.more.now, h)) c.places_by.ensures.kept in
    keeps_then (keeps_then first (λ q h. subst (λ x. KeysAsks (g.V.SiteView.site x) keys v q) c.places_by.ensures.fixed h) c.loop-further.invariant.kept)
    (λ q h. (further, Contains-there c.args.key.now c.args.more.now further (item_in c.args.more.now c.loop-further.further-index further (omega arith) c.further-item.is), subst (λ x. KeyAsks (g.V.SiteView.site x) (Some further.word) v q) (c.loop-further.invariant.fixed ∙ c.places_by.ensures.fixed) h))
    c.places_by-in-loop-further.ensures.kept

pub returns-in_err-push-clause-kept : goal.returns-in_err-push-clause-kept
returns-in_err-push-clause-kept g c =
    let keys = c.args.key.now ∷ c.args.more.now in
    let v = c.args.value.now in
    let further = c.further-item.result in
    let first = keeps_as (λ q h. (c.args.key.now, Contains-here c.args.key.now c.args.more.now, h)) c.places_by.ensures.kept in
    keeps_then (keeps_then first (λ q h. subst (λ x. KeysAsks (g.V.SiteView.site x) keys v q) c.places_by.ensures.fixed h) c.loop-further.invariant.kept)
    (λ q h. (further, Contains-there c.args.key.now c.args.more.now further (item_in c.args.more.now c.loop-further.further-index further (omega arith) c.further-item.is), subst (λ x. KeyAsks (g.V.SiteView.site x) (Some further.word) v q) (c.loop-further.invariant.fixed ∙ c.places_by.ensures.fixed) h))
    c.places_by-in-loop-further.ensures.kept

pub returns-in_err-append-clause-kept : goal.returns-in_err-append-clause-kept
returns-in_err-append-clause-kept g c =
    let keys = c.args.key.now ∷ c.args.more.now in
    let v = c.args.value.now in
    let further = c.further-item.result in
    let first = keeps_as (λ q h. (c.args.key.now, Contains-here c.args.key.now c.args.more.now, h)) c.places_by.ensures.kept in
    keeps_then (keeps_then first (λ q h. subst (λ x. KeysAsks (g.V.SiteView.site x) keys v q) c.places_by.ensures.fixed h) c.loop-further.invariant.kept)
    (λ q h. (further, Contains-there c.args.key.now c.args.more.now further (item_in c.args.more.now c.loop-further.further-index further (omega arith) c.further-item.is), subst (λ x. KeyAsks (g.V.SiteView.site x) (Some further.word) v q) (c.loop-further.invariant.fixed ∙ c.places_by.ensures.fixed) h))
    c.places_by-in-loop-further.ensures.kept

pub loop-further-preserved : goal.loop-further-preserved
loop-further-preserved g c =
    let s = g.V.SiteView.site (g.V.SiteView.fixed c.places_by.new.view) in
    let keys = c.args.key.now ∷ c.args.more.now in
    let v = c.args.value.now in
    let i = c.loop-further.further-index in
    let further = c.further-item.result in
    let next = c.in_ok-next.next in
    let tie = c.in_ok-next.tie.items in
    let one = subst (λ x. (k : Option Value) × IsLeast (g.V.SiteView.site x) (folded_cmp folded_text further.fold) further.word v k × (places further k ≡ next ∷ tie)) c.loop-further.invariant.fixed c.in_ok-next.ensures.answer in
    record {
      own = c.places_by-in-loop-further.ensures.own;
      fixed = c.places_by-in-loop-further.ensures.fixed ∙ c.loop-further.invariant.fixed;
      places = places_more s keys (i + 1) v further _ _ one.0 (omega arith) (rw add-one c.further-item.is) c.loop-further.invariant.places one.1 (further_places _ c.loop-further.list.items c.push.new.self.items c.append.new.self.items tie (places further one.0) next c.in_ok-push.ensures.items c.in_ok-append.ensures.items one.2);
      kept = keeps_then c.loop-further.invariant.kept
          (λ q h. (further, Contains-there c.args.key.now c.args.more.now further (item_in c.args.more.now i further (omega arith) c.further-item.is), subst (λ x. KeyAsks (g.V.SiteView.site x) (Some further.word) v q) c.loop-further.invariant.fixed h))
          c.places_by-in-loop-further.ensures.kept;
    }

pub returns-in_err-value-clause-kept : goal.returns-in_err-value-clause-kept
returns-in_err-value-clause-kept g c =
    let keys = c.args.key.now ∷ c.args.more.now in
    keeps_then (keeps_as (λ q h. (c.args.key.now, Contains-here c.args.key.now c.args.more.now, h)) c.places_by.ensures.kept)
    (λ q h. subst (λ x. KeysAsks (g.V.SiteView.site x) keys c.args.value.now q) c.places_by.ensures.fixed h)
    c.loop-further.invariant.kept

pub returns-clause-kept : goal.returns-clause-kept
returns-clause-kept g c =
    let keys = c.args.key.now ∷ c.args.more.now in
    keeps_then (keeps_as (λ q h. (c.args.key.now, Contains-here c.args.key.now c.args.more.now, h)) c.places_by.ensures.kept)
    (λ q h. subst (λ x. KeysAsks (g.V.SiteView.site x) keys c.args.value.now q) c.places_by.ensures.fixed h)
    c.loop-further.invariant.kept
