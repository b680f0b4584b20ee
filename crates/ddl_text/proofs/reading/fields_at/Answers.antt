use Rattle.std.proofs.Common.{◌≡◌, true, sym, ◌∙◌}
use Rattle.std.proofs.lemmas.Result.{err_from_is_err_and}
use Rattle.grammar.specs.Reading.{starts, repeat}
use Rattle.grammar.proofs.RepeatLoop.{shrinks, goes_on, done}
use Rattle.token_reader.specs.Terminals.{is_name}
use Rattle.ddl_text.specs.Reading.{read_field}
use Rattle.ddl_text.proofs.Parts.{field_part, field_opens}
use Rattle.token_reader.proofs.Ends.{ends}
use Rattle.ddl_text.proofs.reading.fields_at.Goals as goal

pub returns-in_err-field : goal.returns-in_err-field
returns-in_err-field c =
    let p = err_from_is_err_and c.from_residual.result c.from_residual.ensures.1 in
    let is : starts is_name c.fields.rest.now ≡ true = sym c.has_name.ensures ∙ c.fields-test.true in
    rw (p.1, p.2) (ends is_name field_part field_opens c.in_err-field.field-0.0 c.fields.fields.items c.fields.rest.now (repeat is_name read_field c.args.tokens.now) is c.in_err-field.ensures c.fields.invariant)

pub fields-smaller : goal.fields-smaller
fields-smaller c =
    let is : starts is_name c.fields.rest.now ≡ true = sym c.has_name.ensures ∙ c.fields-test.true in
    shrinks is_name field_part field_opens c.fields.rest.now c.in_ok-field.field c.in_ok-field.after.now is c.in_ok-field.ensures

pub fields-preserved : goal.fields-preserved
fields-preserved c =
    let is : starts is_name c.fields.rest.now ≡ true = sym c.has_name.ensures ∙ c.fields-test.true in
    rw c.in_ok-push.ensures.items (goes_on is_name field_part field_opens c.fields.fields.items c.fields.rest.now c.in_ok-field.field c.in_ok-field.after.now (repeat is_name read_field c.args.tokens.now) is c.in_ok-field.ensures c.fields.invariant)

pub returns : goal.returns
returns c = done is_name field_part field_opens c.fields.fields.items c.fields.rest.now (repeat is_name read_field c.args.tokens.now) (sym c.has_name.ensures ∙ c.fields-test.false) c.fields.invariant
