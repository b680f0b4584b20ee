use Rattle.std.proofs.Common.{rules, ap, sym, subst, ◌∙◌, string_bytes, None}
use Rattle.std.specs.Int.{w64}
use Rattle.std.specs.Int.RustNames.{FitsSigned}
use Rattle.function_spec.specs.declared.Function.TheVariants.{Number}
use Rattle.function_spec.specs.Functions.{Gives, OfText, one_text, IsInt}
use Rattle.function_spec.specs.Numbers.{Spells}
use Rattle.function_spec.specs.Words.{trim}
use Rattle.text_functions.proofs.Telling.{told_none, told_some, none_from, some_from, told_as, of_one}
use Rattle.text_functions.proofs.texts.number.Goals as goal

pub returns-in_default : goal.returns-in_default
unfolding Gives
returns-in_default c = told_none (one_text c.args.values.now) (OfText Number) (search (rules, none_from))

pub returns-in_default-spelled : goal.returns-in_default-spelled
unfolding Gives
returns-in_default-spelled c =
    let same = c.as_slice.ensures.value ∙ c.in_ok-digits.ensures ∙ ap trim c.as_bytes.ensures.value in
    told_some (one_text c.args.values.now) (string_bytes c.in-Some.text) (OfText Number) None (search (rules, some_from))
    (λ v h. c.in_default-spelled.ensures h.0 (subst (λ t. Spells t h.0) (sym same) h.1) h.2.0)

pub returns : goal.returns
unfolding Gives
returns c =
    let same = c.as_slice.ensures.value ∙ c.in_ok-digits.ensures ∙ ap trim c.as_bytes.ensures.value in
    let n = c.in-Some-spelled.number in
    let fits : FitsSigned w64 c.in-Some-spelled.number = search rules in
    let spelled = subst (λ t. Spells t n) same c.in-Some-spelled.ensures in
    told_some (one_text c.args.values.now) (string_bytes c.in-Some.text) (OfText Number) c.int_value.result (search (rules, some_from))
    (told_as c.int_value.result (of_one n c.int_value.result fits c.int_value.ensures) (λ v p. (n, spelled, p))
    (λ v q. subst (λ m. IsInt m v) (q.1.1 ∙ sym spelled.1) q.2))
