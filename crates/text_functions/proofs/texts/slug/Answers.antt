use Rattle.std.proofs.Common.{rules, ap, ◌∙◌, string_bytes}
use Rattle.function_spec.specs.declared.Function.TheVariants.{Slug}
use Rattle.function_spec.specs.Functions.{Gives, OfText, one_text}
use Rattle.function_spec.specs.Folding.{fold}
use Rattle.function_spec.specs.Words.{dashed}
use Rattle.text_functions.proofs.Telling.{told_none, told_some, none_from, some_from, filled_as}
use Rattle.text_functions.proofs.texts.slug.Goals as goal

pub returns-in_default : goal.returns-in_default
unfolding Gives
returns-in_default c = told_none (one_text c.args.values.now) (OfText Slug) (search (rules, none_from))

pub returns : goal.returns
unfolding Gives
returns c =
    told_some (one_text c.args.values.now) (string_bytes c.in-Some.text) (OfText Slug) c.in_ok-value.value (search (rules, some_from))
    (filled_as c.as_slice.result.now _ c.in_ok-value.value c.in_ok-value.ensures (c.as_slice.ensures.value ∙ c.in_ok-made.ensures ∙ ap dashed (c.as_bytes.ensures.value ∙ c.in_ok-plain.ensures ∙ ap fold c.as_str.ensures.value)))
