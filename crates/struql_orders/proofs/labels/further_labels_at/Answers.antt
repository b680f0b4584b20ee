use Rattle.std.proofs.Common.{◌≡◌, true, [], ◌∷◌, sym, ◌∙◌}
use Rattle.std.proofs.lemmas.Result.{err_from_is_err_and}
use Rattle.sd_lex.specs.declared.token.Sign.TheVariants as signs
use Rattle.grammar.specs.Reading.{starts, repeat, with_front}
use Rattle.grammar.proofs.RepeatLoop.{shrinks, goes_on, done}
use Rattle.token_reader.specs.Terminals.{is_sign}
use Rattle.token_reader.proofs.Ends.{ends}
use Rattle.struql_orders.specs.Reading.{read_further_label}
use Rattle.struql_orders.proofs.Parts.{further_label_part, further_label_opens}
use Rattle.struql_orders.proofs.labels.further_labels_at.Goals as goal

pub returns-in_err-label : goal.returns-in_err-label
returns-in_err-label c =
    let p = err_from_is_err_and c.from_residual-in_err-label.result c.from_residual-in_err-label.ensures.1 in
    let is : starts (is_sign signs.Dot) c.labels.rest.now ≡ true = sym c.has_sign.ensures ∙ c.labels-test.true in
    rw (p.1, p.2) (ends (is_sign signs.Dot) further_label_part further_label_opens c.in_err-label.field-0.0 c.labels.labels.items c.labels.rest.now (with_front (c.args.first ∷ []) (repeat (is_sign signs.Dot) read_further_label c.args.tokens.now)) is c.in_err-label.ensures c.labels.invariant)

pub labels-smaller : goal.labels-smaller
labels-smaller c =
    let is : starts (is_sign signs.Dot) c.labels.rest.now ≡ true = sym c.has_sign.ensures ∙ c.labels-test.true in
    shrinks (is_sign signs.Dot) further_label_part further_label_opens c.labels.rest.now c.in_ok-label.label c.in_ok-label.after.now is c.in_ok-label.ensures

pub labels-preserved : goal.labels-preserved
labels-preserved c =
    let is : starts (is_sign signs.Dot) c.labels.rest.now ≡ true = sym c.has_sign.ensures ∙ c.labels-test.true in
    rw c.in_ok-push-2.ensures.items (goes_on (is_sign signs.Dot) further_label_part further_label_opens c.labels.labels.items c.labels.rest.now c.in_ok-label.label c.in_ok-label.after.now (with_front (c.args.first ∷ []) (repeat (is_sign signs.Dot) read_further_label c.args.tokens.now)) is c.in_ok-label.ensures c.labels.invariant)

pub returns : goal.returns
returns c = done (is_sign signs.Dot) further_label_part further_label_opens c.labels.labels.items c.labels.rest.now (with_front (c.args.first ∷ []) (repeat (is_sign signs.Dot) read_further_label c.args.tokens.now)) (sym c.has_sign.ensures ∙ c.labels-test.false) c.labels.invariant
