use Rattle.std.proofs.Common.{rules, ap, ◌∙◌, string_bytes}
use Rattle.function_spec.specs.declared.Function.TheVariants.{Upper}
use Rattle.function_spec.specs.Functions.{Gives, OfText, one_text}
use Rattle.std.specs.StrCase.Upper.{str_to_uppercase}
use Rattle.text_functions.proofs.Telling.{told_none, told_some, none_from, some_from, text_as}
use Rattle.text_functions.proofs.texts.upper.Goals as goal

pub returns-in_default : goal.returns-in_default
unfolding Gives
returns-in_default c = told_none (one_text c.args.values.now) (OfText Upper) (search (rules, none_from))

pub returns : goal.returns
unfolding Gives
returns c =
    told_some (one_text c.args.values.now) (string_bytes c.in-Some.text) (OfText Upper) c.in_ok-value.value (search (rules, some_from))
    (text_as c.as_bytes.result.now _ c.in_ok-value.value c.in_ok-value.ensures (c.as_bytes.ensures.value ∙ c.in_ok-made.ensures.value ∙ ap str_to_uppercase c.as_str.ensures.value))
