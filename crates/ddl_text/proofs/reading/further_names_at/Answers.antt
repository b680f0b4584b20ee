use Rattle.std.proofs.Common.{◌≡◌, true, [], ◌∷◌, sym, ◌∙◌}
use Rattle.std.proofs.lemmas.Result.{err_from_is_err_and}
use Rattle.sd_lex.specs.declared.token.Sign.TheVariants as signs
use Rattle.grammar.specs.Reading.{starts, repeat, with_front}
use Rattle.grammar.proofs.RepeatLoop.{shrinks, goes_on, done}
use Rattle.token_reader.specs.Terminals.{is_sign}
use Rattle.ddl_text.specs.Reading.{read_further_name}
use Rattle.ddl_text.proofs.Parts.{further_name_part, further_name_opens}
use Rattle.token_reader.proofs.Ends.{ends}
use Rattle.ddl_text.proofs.reading.further_names_at.Goals as goal

pub returns-in_err-name : goal.returns-in_err-name
returns-in_err-name c =
    let p = err_from_is_err_and c.from_residual-in_err-name.result c.from_residual-in_err-name.ensures.1 in
    let is : starts (is_sign signs.Comma) c.names.rest.now ≡ true = sym c.has_sign.ensures ∙ c.names-test.true in
    rw (p.1, p.2) (ends (is_sign signs.Comma) further_name_part further_name_opens c.in_err-name.field-0.0 c.names.names.items c.names.rest.now (with_front (c.args.first ∷ []) (repeat (is_sign signs.Comma) read_further_name c.args.tokens.now)) is c.in_err-name.ensures c.names.invariant)

pub names-smaller : goal.names-smaller
names-smaller c =
    let is : starts (is_sign signs.Comma) c.names.rest.now ≡ true = sym c.has_sign.ensures ∙ c.names-test.true in
    shrinks (is_sign signs.Comma) further_name_part further_name_opens c.names.rest.now c.in_ok-name.name c.in_ok-name.after.now is c.in_ok-name.ensures

pub names-preserved : goal.names-preserved
names-preserved c =
    let is : starts (is_sign signs.Comma) c.names.rest.now ≡ true = sym c.has_sign.ensures ∙ c.names-test.true in
    rw c.in_ok-push-2.ensures.items (goes_on (is_sign signs.Comma) further_name_part further_name_opens c.names.names.items c.names.rest.now c.in_ok-name.name c.in_ok-name.after.now (with_front (c.args.first ∷ []) (repeat (is_sign signs.Comma) read_further_name c.args.tokens.now)) is c.in_ok-name.ensures c.names.invariant)

pub returns : goal.returns
returns c = done (is_sign signs.Comma) further_name_part further_name_opens c.names.names.items c.names.rest.now (with_front (c.args.first ∷ []) (repeat (is_sign signs.Comma) read_further_name c.args.tokens.now)) (sym c.has_sign.ensures ∙ c.names-test.false) c.names.invariant
