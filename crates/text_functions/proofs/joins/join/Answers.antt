use Rattle.std.proofs.Common.{rules, ◌≤◌, length, arith, string_bytes}
use Rattle.function_spec.specs.Functions.{Gives, joined, IsText}
use Rattle.text_functions.proofs.Telling.{told_none, told_some, told_as, none_from, some_from, text_as}
use Rattle.text_functions.proofs.joins.join.Goals as goal

pub returns-then-values-lt2 : goal.returns-then-values-lt2
unfolding Gives
returns-then-values-lt2 c = λ v h. let k : 2 ≤ length c.args.values.now = h.0 in absurd (omega arith)

pub returns-then-values-gt16 : goal.returns-then-values-gt16
unfolding Gives
returns-then-values-gt16 c = λ v h. let k : length c.args.values.now ≤ 16 = h.1 in absurd (omega arith)

pub returns-in_default : goal.returns-in_default
unfolding Gives
returns-in_default c = λ v h. told_none (joined c.args.values.now) (λ t. IsText t) (search (rules, none_from)) v h.2

pub returns : goal.returns
unfolding Gives
returns c =
    let told = told_some (joined c.args.values.now) (string_bytes c.in-Some.text) (λ t. IsText t) c.in_ok-value.value (search (rules, some_from))
    (text_as c.as_bytes.result.now (string_bytes c.in-Some.text) c.in_ok-value.value c.in_ok-value.ensures c.as_bytes.ensures.value) in
    let low : 2 ≤ length c.args.values.now = omega arith in
    let high : length c.args.values.now ≤ 16 = omega arith in
    told_as c.in_ok-value.value told (λ v p. (low, high, p)) (λ v q. q.2)
