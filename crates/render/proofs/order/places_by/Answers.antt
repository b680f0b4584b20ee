use Rattle.std.proofs.Common.{List, ◌∷◌, subst, sym, ap, ◌∙◌, refl}
use Rattle.std.specs.Prelude.{true}
use Rattle.std.specs.Option.{option_map}
use Rattle.sd_value.specs.declared.Value.{Value}
use Rattle.page_spec.specs.declared.Place.{Place}
use Rattle.key_spec.specs.Keys.{folded_text, folded_cmp}
use Rattle.page_spec.specs.Site.{IsLeast}
use Rattle.render.specs.Rows.{IsLeastKey}
use Rattle.render.proofs.Room.{ok_then}
use Rattle.render.proofs.Keys.{value_of, least_reached, least_is_key, key_from_list}
use Rattle.render.proofs.order.places_by.Goals as goal

pub returns-in_ok-least-clause-answer : goal.returns-in_ok-least-clause-answer
returns-in_ok-least-clause-answer g c =
    let s = g.V.SiteView.site (g.V.SiteView.fixed c.args.view.now) in
    let key = c.args.key.now in
    let vs = c.in_ok-values.values.items in
    let least = c.in_ok-least.least in
    let is = subst (λ (l : List Value). IsLeastKey true l least) c.as_slice.ensures.value c.in_ok-least.ensures in
    ok_then _ _ c.folded_places.result
    (λ _ folded. (option_map value_of least, subst (λ b. IsLeast s (folded_cmp folded_text b) key.word c.args.value.now (option_map value_of least)) (sym c.if-key.true) (least_reached s true key.word c.args.value.now vs least c.in_ok-values.ensures.answer is), folded key (option_map value_of least) c.if-key.true refl (least_is_key true vs least is)))
    c.folded_places.ensures

pub returns-else-key-clause-answer : goal.returns-else-key-clause-answer
returns-else-key-clause-answer g c =
    let s = g.V.SiteView.site (g.V.SiteView.fixed c.args.view.now) in
    let key = c.args.key.now in
    let first = c.first.result in (
      first,
      subst (λ b. IsLeast s (folded_cmp folded_text b) key.word c.args.value.now first) (sym c.if-key.false) (key_from_list s key.word c.args.value.now c.in_ok-values.values.items c.in_ok-values.ensures.answer first c.first.ensures),
      c.plain_place-place.ensures key c.if-key.false refl ∙ ap (λ (l : List Place). c.plain_place-place.result ∷ l) (sym c.new.ensures.items),
    )
