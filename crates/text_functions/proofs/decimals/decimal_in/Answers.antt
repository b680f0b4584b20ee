use Rattle.std.proofs.Common.{rules, ◌≡◌, ◌++◌, true, false, drop, ap, ◌∙◌}
use Rattle.std.specs.Prelude.{◌==◌}
use Rattle.std.specs.Int.{w64}
use Rattle.std.specs.Int.RustNames.{FitsSigned}
use Rattle.std.specs.List.{list_all}
use Rattle.function_spec.specs.Numbers.{places, signed_as}
use Rattle.text_functions.proofs.Marks.{past_none, number_none, decimal_told}
use Rattle.text_functions.proofs.Telling.{of_one}
use Rattle.text_functions.proofs.decimals.decimal_in.Goals as goal

pub returns-then-not-are_zeros_past : goal.returns-then-not-are_zeros_past
returns-then-not-are_zeros_past c =
    let others : list_all (λ d. d == 48) (drop c.args.n c.in-Some.part.now) ≡ false = search rules in
    past_none c.args.mark.now c.args.text.now c.in-Some.whole.now c.in-Some.part.now c.args.n c.requires.mark c.in-Some.ensures others

pub returns-in_default-number : goal.returns-in_default-number
returns-in_default-number c =
    let made = c.as_slice.ensures.value ∙ c.in_ok-digits.ensures ∙ ap (λ t. signed_as t (c.in-Some.whole.now ++ places c.args.n c.in-Some.part.now)) c.as_bytes.ensures.value in
    number_none c.args.mark.now c.args.text.now c.in-Some.whole.now c.in-Some.part.now c.args.n c.requires.mark c.in-Some.ensures c.as_slice.result.now made c.in_default-number.ensures

pub returns : goal.returns
returns c =
    let zeros : list_all (λ d. d == 48) (drop c.args.n c.in-Some.part.now) ≡ true = search rules in
    let made = c.as_slice.ensures.value ∙ c.in_ok-digits.ensures ∙ ap (λ t. signed_as t (c.in-Some.whole.now ++ places c.args.n c.in-Some.part.now)) c.as_bytes.ensures.value in
    let fits : FitsSigned w64 c.in-Some-number.number = search rules in
    decimal_told c.args.mark.now c.args.text.now c.in-Some.whole.now c.in-Some.part.now c.args.n c.requires.mark c.in-Some.ensures c.as_slice.result.now made zeros c.in-Some-number.number c.in-Some-number.ensures c.int_value.result
    (of_one c.in-Some-number.number c.int_value.result fits c.int_value.ensures)
