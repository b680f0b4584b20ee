use Rattle.std.proofs.Common.{◌≡◌, true, [], ◌∷◌, sym, ◌∙◌}
use Rattle.std.specs.Prelude.{map}
use Rattle.std.proofs.lemmas.List.{map-append}
use Rattle.std.proofs.lemmas.Result.{err_from_is_err_and}
use Rattle.grammar.specs.Reading.{starts, repeat}
use Rattle.grammar.proofs.RepeatLoop.{shrinks, goes_on, done}
use Rattle.order_spec.specs.Read.{place_of}
use Rattle.token_reader.proofs.Ends.{ends}
use Rattle.struql_orders.specs.Terminals.{begins_place}
use Rattle.struql_orders.specs.Reading.{read_place}
use Rattle.struql_orders.proofs.Parts.{place_part, place_opens}
use Rattle.struql_orders.proofs.places.places_at.Goals as goal

pub returns-in_err-place : goal.returns-in_err-place
returns-in_err-place c =
    let p = err_from_is_err_and c.from_residual.result c.from_residual.ensures.1 in
    let is : starts begins_place c.places.rest.now ≡ true = sym c.has_place.ensures ∙ c.places-test.true in
    rw (p.1, p.2) (ends begins_place place_part place_opens c.in_err-place.field-0.0 (map place_of c.places.places.items) c.places.rest.now (repeat begins_place read_place c.args.tokens.now) is c.in_err-place.ensures c.places.invariant)

pub places-smaller : goal.places-smaller
places-smaller c =
    let is : starts begins_place c.places.rest.now ≡ true = sym c.has_place.ensures ∙ c.places-test.true in
    shrinks begins_place place_part place_opens c.places.rest.now (place_of c.in_ok-place.place) c.in_ok-place.after.now is c.in_ok-place.ensures

pub places-preserved : goal.places-preserved
places-preserved c =
    let is : starts begins_place c.places.rest.now ≡ true = sym c.has_place.ensures ∙ c.places-test.true in
    let more = goes_on begins_place place_part place_opens (map place_of c.places.places.items) c.places.rest.now (place_of c.in_ok-place.place) c.in_ok-place.after.now (repeat begins_place read_place c.args.tokens.now) is c.in_ok-place.ensures c.places.invariant in
    rw (c.in_ok-push.ensures.items, map-append place_of c.places.places.items (c.in_ok-place.place ∷ [])) more

pub returns : goal.returns
returns c = done begins_place place_part place_opens (map place_of c.places.places.items) c.places.rest.now (repeat begins_place read_place c.args.tokens.now) (sym c.has_place.ensures ∙ c.places-test.false) c.places.invariant
