use Rattle.std.proofs.Common.{◌≡◌, true, sym, ◌∙◌}
use Rattle.std.proofs.lemmas.Result.{err_from_is_err_and}
use Rattle.grammar.specs.Reading.{starts, repeat}
use Rattle.grammar.proofs.RepeatLoop.{shrinks, goes_on, done}
use Rattle.constraints.specs.Reading.{read_phrase, begins_phrase}
use Rattle.constraints.proofs.Parts.{phrase_part, phrase_opens}
use Rattle.token_reader.proofs.Ends.{ends}
use Rattle.constraints.proofs.reading.phrases_at.Goals as goal

pub returns-in_err-phrase : goal.returns-in_err-phrase
returns-in_err-phrase c =
    let p = err_from_is_err_and c.from_residual.result c.from_residual.ensures.1 in
    let is : starts begins_phrase c.phrases.rest.now ≡ true = sym c.has_phrase.ensures ∙ c.phrases-test.true in
    rw (p.1, p.2) (ends begins_phrase phrase_part phrase_opens c.in_err-phrase.field-0.0 c.phrases.phrases.items c.phrases.rest.now (repeat begins_phrase read_phrase c.args.tokens.now) is c.in_err-phrase.ensures c.phrases.invariant)

pub phrases-smaller : goal.phrases-smaller
phrases-smaller c =
    let is : starts begins_phrase c.phrases.rest.now ≡ true = sym c.has_phrase.ensures ∙ c.phrases-test.true in
    shrinks begins_phrase phrase_part phrase_opens c.phrases.rest.now c.in_ok-phrase.phrase c.in_ok-phrase.after.now is c.in_ok-phrase.ensures

pub phrases-preserved : goal.phrases-preserved
phrases-preserved c =
    let is : starts begins_phrase c.phrases.rest.now ≡ true = sym c.has_phrase.ensures ∙ c.phrases-test.true in
    rw c.in_ok-push.ensures.items (goes_on begins_phrase phrase_part phrase_opens c.phrases.phrases.items c.phrases.rest.now c.in_ok-phrase.phrase c.in_ok-phrase.after.now (repeat begins_phrase read_phrase c.args.tokens.now) is c.in_ok-phrase.ensures c.phrases.invariant)

pub returns : goal.returns
returns c = done begins_phrase phrase_part phrase_opens c.phrases.phrases.items c.phrases.rest.now (repeat begins_phrase read_phrase c.args.tokens.now) (sym c.has_phrase.ensures ∙ c.phrases-test.false) c.phrases.invariant
