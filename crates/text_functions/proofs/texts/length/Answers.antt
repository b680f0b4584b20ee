use Rattle.std.proofs.Common.{rules, ap, ◌∙◌, string_bytes, pos}
use Rattle.function_spec.specs.declared.Function.TheVariants.{Length}
use Rattle.function_spec.specs.Functions.{Gives, OfText, one_text}
use Rattle.function_spec.specs.Characters.{count}
use Rattle.text_functions.proofs.Telling.{told_none, told_some, none_from, some_from, int_as}
use Rattle.text_functions.proofs.texts.length.Goals as goal

pub returns-in_default : goal.returns-in_default
unfolding Gives
returns-in_default c = told_none (one_text c.args.values.now) (OfText Length) (search (rules, none_from))

pub returns : goal.returns
unfolding Gives
returns c =
    told_some (one_text c.args.values.now) (string_bytes c.in-Some.text) (OfText Length) c.count_value-value.result (search (rules, some_from))
    (int_as (pos c.count.result) _ c.count_value-value.result c.count_value-value.ensures (ap pos (c.count.ensures ∙ ap count c.as_str.ensures.value)))
