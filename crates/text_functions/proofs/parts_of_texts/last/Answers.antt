use Rattle.std.proofs.Common.{rules, string_bytes}
use Rattle.function_spec.specs.declared.Function.TheVariants.{Last}
use Rattle.function_spec.specs.Functions.{Gives, OfCount, two, count_of}
use Rattle.value_texts.specs.Texts.{text_of}
use Rattle.text_functions.proofs.Telling.{told_none, told_some, none_from, some_from, text_as}
use Rattle.text_functions.proofs.parts_of_texts.last.Goals as goal

pub returns-in_default : goal.returns-in_default
unfolding Gives
returns-in_default c = told_none (two text_of count_of c.args.values.now) (OfCount Last) (search (rules, none_from))

pub returns : goal.returns
unfolding Gives
returns c =
    told_some (two text_of count_of c.args.values.now) (string_bytes c.in-Some.text, c.in-Some.n) (OfCount Last) c.in_ok-value.value (search (rules, some_from))
    (text_as c.as_bytes.result.now _ c.in_ok-value.value c.in_ok-value.ensures (cc))
