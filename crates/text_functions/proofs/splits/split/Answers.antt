use Rattle.std.proofs.Common.{rules, ◌<◌, length, string_bytes, None, subst, sym}
use Rattle.sd_value.specs.Ascending.{ListsExactly}
use Rattle.sd_value.specs.AscendingLaws.{lists_nothing, listed_as}
use Rattle.sd_value.specs.Order.{value_cmp}
use Rattle.value_texts.specs.Texts.{text_of}
use Rattle.function_spec.specs.declared.Function.TheVariants.{Split}
use Rattle.function_spec.specs.Functions.{Gives, OfTexts, two}
use Rattle.text_functions.proofs.Parting.{listed_some, listed_pair}
use Rattle.text_functions.proofs.Telling.{told_none, told_some, none_from, some_from, filled_from, unfilled_from}
use Rattle.text_functions.proofs.splits.split.Goals as goal

pub returns-in_default : goal.returns-in_default
unfolding Gives
returns-in_default c =
    subst (ListsExactly value_cmp (Gives Split c.args.values.now)) (sym c.new-nothing.ensures.items)
    (lists_nothing value_cmp (Gives Split c.args.values.now) (told_none (two text_of text_of c.args.values.now) (λ p v. (0 < length p.1) × OfTexts Split p v) (search (rules, none_from))))

pub returns-then-is_empty : goal.returns-then-is_empty
unfolding Gives
returns-then-is_empty c =
    subst (ListsExactly value_cmp (Gives Split c.args.values.now)) (sym c.new-nothing.ensures.items)
    (lists_nothing value_cmp (Gives Split c.args.values.now) (told_some (two text_of text_of c.args.values.now) (string_bytes c.in-Some.text, string_bytes c.in-Some.part) (λ p v. (0 < length p.1) × OfTexts Split p v) None (search (rules, some_from))
    (λ v q. unfilled_from c.as_str.result.now (string_bytes c.in-Some.part) _ c.is_empty.ensures c.if-is_empty.true c.as_str.ensures.value q.0)))

pub returns : goal.returns
unfolding Gives
returns c =
    let filled = filled_from c.as_str.result.now (string_bytes c.in-Some.part) _ c.is_empty.ensures c.if-is_empty.false c.as_str.ensures.value in
    listed_some (two text_of text_of c.args.values.now) (string_bytes c.in-Some.text, string_bytes c.in-Some.part) (λ p v. (0 < length p.1) × OfTexts Split p v) _ (search (rules, some_from))
    (listed_as (listed_pair (OfTexts Split) _ c.as_str-2.result.now (string_bytes c.in-Some.text) c.as_str-3.result.now (string_bytes c.in-Some.part) c.in_ok-found.ensures c.as_str-2.ensures.value c.as_str-3.ensures.value)
    (λ v q. (filled, q)) (λ v q. q.1))
