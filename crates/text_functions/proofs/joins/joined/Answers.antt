use Rattle.std.proofs.Common.{◌++◌, ap, ◌∙◌, string_bytes}
use Rattle.text_functions.proofs.Telling.{none_from, some_from}
use Rattle.text_functions.proofs.Texting.{text_more, text_missing, text_whole, more_as}
use Rattle.text_functions.proofs.joins.joined.Goals as goal

pub loop-value-preserved : goal.loop-value-preserved
loop-value-preserved c =
    let made = c.in_ok-push_str.ensures.bytes ∙ ap (λ t. string_bytes c.loop-value.text ++ t) c.as_str.ensures.value in
    more_as c.args.values.now c.loop-value.value-index (string_bytes c.push_str.new.self) (string_bytes c.loop-value.text ++ string_bytes c.in-Some.part) made
    (text_more c.args.values.now c.loop-value.value-index c.value-item.result c.loop-value-test.true c.value-item.is (string_bytes c.loop-value.text) c.loop-value.invariant (string_bytes c.in-Some.part)
    (some_from string_bytes c.in_ok-part.field-0 _ c.in-Some.part c.in_ok-part.ensures c.in-Some.is))

pub returns-in_default : goal.returns-in_default
returns-in_default c =
    text_missing c.args.values.now c.loop-value.value-index c.value-item.result c.loop-value-test.true c.value-item.is (string_bytes c.loop-value.text) c.loop-value.invariant
    (none_from string_bytes c.in_ok-part.field-0 _ c.in_ok-part.ensures c.in_default.is)

pub returns : goal.returns
returns c = text_whole c.args.values.now c.loop-value.value-index (string_bytes c.loop-value.text) c.loop-value-test.false c.loop-value.invariant
