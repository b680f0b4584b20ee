use Rattle.std.proofs.Common.{◌≡◌, true, sym, ◌∙◌}
use Rattle.std.proofs.lemmas.Result.{err_from_is_err_and}
use Rattle.grammar.specs.Reading.{starts, repeat, with_front}
use Rattle.grammar.proofs.RepeatLoop.{shrinks, goes_on, done}
use Rattle.template_tags.specs.Terminals.{is_dot}
use Rattle.template_tags.specs.Reading.{read_dotted}
use Rattle.template_tags.proofs.WordParts.{dotted_part, dotted_opens}
use Rattle.token_reader.proofs.Ends.{ends}
use Rattle.template_tags.proofs.expression.labels_from.Goals as goal

pub returns-in_err-label : goal.returns-in_err-label
returns-in_err-label c =
    let p = err_from_is_err_and c.from_residual.result c.from_residual.ensures.1 in
    let is : starts is_dot c.labels.rest.now ≡ true = sym c.has_dot.ensures ∙ c.labels-test.true in
    rw (p.1, p.2) (ends is_dot dotted_part dotted_opens c.in_err-label.field-0.0 c.labels.labels.items c.labels.rest.now (with_front c.args.labels.items (repeat is_dot read_dotted c.args.items.now)) is c.in_err-label.ensures c.labels.invariant)

pub labels-smaller : goal.labels-smaller
labels-smaller c =
    let is : starts is_dot c.labels.rest.now ≡ true = sym c.has_dot.ensures ∙ c.labels-test.true in
    shrinks is_dot dotted_part dotted_opens c.labels.rest.now c.in_ok-label.label c.in_ok-label.after.now is c.in_ok-label.ensures

pub labels-preserved : goal.labels-preserved
labels-preserved c =
    let is : starts is_dot c.labels.rest.now ≡ true = sym c.has_dot.ensures ∙ c.labels-test.true in
    rw c.in_ok-push.ensures.items (goes_on is_dot dotted_part dotted_opens c.labels.labels.items c.labels.rest.now c.in_ok-label.label c.in_ok-label.after.now (with_front c.args.labels.items (repeat is_dot read_dotted c.args.items.now)) is c.in_ok-label.ensures c.labels.invariant)

pub returns : goal.returns
returns c = done is_dot dotted_part dotted_opens c.labels.labels.items c.labels.rest.now (with_front c.args.labels.items (repeat is_dot read_dotted c.args.items.now)) (sym c.has_dot.ensures ∙ c.labels-test.false) c.labels.invariant
