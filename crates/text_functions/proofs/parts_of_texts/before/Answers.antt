use Rattle.std.proofs.Common.{rules, ◌<◌, length, string_bytes, None}
use Rattle.value_texts.specs.Texts.{text_of}
use Rattle.function_spec.specs.declared.Function.TheVariants.{Before}
use Rattle.function_spec.specs.Functions.{Gives, OfTexts, two}
use Rattle.text_functions.proofs.Telling.{told_none, told_some, none_from, some_from, with_yes, pair_as, filled_from, unfilled_from}
use Rattle.text_functions.proofs.parts_of_texts.before.Goals as goal

pub returns-in_default : goal.returns-in_default
unfolding Gives
returns-in_default c = told_none (two text_of text_of c.args.values.now) (λ p v. (0 < length p.1) × OfTexts Before p v) (search (rules, none_from))

pub returns-then-is_empty : goal.returns-then-is_empty
unfolding Gives
returns-then-is_empty c =
    told_some (two text_of text_of c.args.values.now) (string_bytes c.in-Some.text, string_bytes c.in-Some.part) (λ p v. (0 < length p.1) × OfTexts Before p v) None (search (rules, some_from))
    (λ v q. unfilled_from c.as_str.result.now (string_bytes c.in-Some.part) _ c.is_empty.ensures c.if-is_empty.true c.as_str.ensures.value q.0)

pub returns : goal.returns
unfolding Gives
returns c =
    let filled = filled_from c.as_str.result.now (string_bytes c.in-Some.part) _ c.is_empty.ensures c.if-is_empty.false c.as_str.ensures.value in
    told_some (two text_of text_of c.args.values.now) (string_bytes c.in-Some.text, string_bytes c.in-Some.part) (λ p v. (0 < length p.1) × OfTexts Before p v) c.in_ok-value.value (search (rules, some_from))
    (with_yes (0 < length (string_bytes c.in-Some.part)) (OfTexts Before (string_bytes c.in-Some.text, string_bytes c.in-Some.part)) c.in_ok-value.value filled
    (pair_as (OfTexts Before) c.in_ok-value.value c.as_str-2.result.now (string_bytes c.in-Some.text) c.as_str-3.result.now (string_bytes c.in-Some.part) c.in_ok-value.ensures c.as_str-2.ensures.value c.as_str-3.ensures.value))
