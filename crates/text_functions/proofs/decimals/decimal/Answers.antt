use Rattle.std.proofs.Common.{rules, ◌≤◌, string_bytes, None, sym, subst, arith}
use Rattle.function_spec.specs.Functions.{Gives, Decimals, three, count_of}
use Rattle.function_spec.specs.Numbers.{IsMark}
use Rattle.text_functions.proofs.Marks.{decimals_told}
use Rattle.text_functions.proofs.Telling.{told_none, told_some, none_from, some_from}
use Rattle.text_functions.proofs.decimals.decimal.Goals as goal

pub returns-in_default : goal.returns-in_default
unfolding Gives
returns-in_default c = told_none (three count_of c.args.values.now) Decimals (search (rules, none_from))

pub returns-then-not-is_mark : goal.returns-then-not-is_mark
unfolding Gives
returns-then-not-is_mark c =
    told_some (three count_of c.args.values.now) ((string_bytes c.in-Some.texts.0, string_bytes c.in-Some.texts.1), c.in-Some.n) Decimals None (search (rules, some_from))
    (λ v q. c.if-not-is_mark.ensures (subst IsMark (sym c.as_bytes.ensures.value) q.0))

pub returns-then-n-gt-MOST_PLACES : goal.returns-then-n-gt-MOST_PLACES
unfolding Gives
returns-then-n-gt-MOST_PLACES c =
    told_some (three count_of c.args.values.now) ((string_bytes c.in-Some.texts.0, string_bytes c.in-Some.texts.1), c.in-Some.n) Decimals None (search (rules, some_from))
    (λ v q. let few = q.1 in let many = c.if-n-gt-MOST_PLACES.true in omega (arith, few, many))

pub returns : goal.returns
unfolding Gives
returns c =
    let few : c.in-Some.n ≤ 18 = search rules in
    told_some (three count_of c.args.values.now) ((string_bytes c.in-Some.texts.0, string_bytes c.in-Some.texts.1), c.in-Some.n) Decimals c.in_ok-value.value (search (rules, some_from))
    (decimals_told c.as_str.result.now c.as_str-2.result.now (string_bytes c.in-Some.texts.0) (string_bytes c.in-Some.texts.1) c.in-Some.n c.in_ok-value.value
    (subst IsMark c.as_bytes.ensures.value c.if-not-is_mark.ensures) few c.in_ok-value.ensures c.as_str.ensures.value c.as_str-2.ensures.value)
