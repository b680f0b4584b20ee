use Rattle.std.proofs.Common.{rules, ◌<◌, length, string_bytes, None}
use Rattle.value_texts.specs.Texts.{text_of}
use Rattle.function_spec.specs.Functions.{Gives, Replaced, three}
use Rattle.text_functions.proofs.Telling.{told_none, told_some, none_from, some_from, with_yes, triple_as, filled_from, unfilled_from}
use Rattle.text_functions.proofs.replacing.replace.Goals as goal

pub returns-in_default : goal.returns-in_default
unfolding Gives
returns-in_default c = told_none (three text_of c.args.values.now) (λ p v. (0 < length p.0.1) × Replaced p v) (search (rules, none_from))

pub returns-then-is_empty : goal.returns-then-is_empty
unfolding Gives
returns-then-is_empty c =
    told_some (three text_of c.args.values.now) ((string_bytes c.in-Some.texts.0, string_bytes c.in-Some.texts.1), string_bytes c.in-Some.by) (λ p v. (0 < length p.0.1) × Replaced p v) None (search (rules, some_from))
    (λ v q. unfilled_from c.as_str.result.now (string_bytes c.in-Some.texts.1) _ c.is_empty.ensures c.if-is_empty.true c.as_str.ensures.value q.0)

pub returns : goal.returns
unfolding Gives
returns c =
    let filled = filled_from c.as_str.result.now (string_bytes c.in-Some.texts.1) _ c.is_empty.ensures c.if-is_empty.false c.as_str.ensures.value in
    told_some (three text_of c.args.values.now) ((string_bytes c.in-Some.texts.0, string_bytes c.in-Some.texts.1), string_bytes c.in-Some.by) (λ p v. (0 < length p.0.1) × Replaced p v) c.in_ok-value.value (search (rules, some_from))
    (with_yes (0 < length (string_bytes c.in-Some.texts.1)) (Replaced ((string_bytes c.in-Some.texts.0, string_bytes c.in-Some.texts.1), string_bytes c.in-Some.by)) c.in_ok-value.value filled
    (triple_as Replaced c.in_ok-value.value c.as_str-2.result.now (string_bytes c.in-Some.texts.0) c.as_str-3.result.now (string_bytes c.in-Some.texts.1) c.as_str-4.result.now (string_bytes c.in-Some.by) c.in_ok-value.ensures c.as_str-2.ensures.value c.as_str-3.ensures.value c.as_str-4.ensures.value))
