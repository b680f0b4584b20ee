use Rattle.std.proofs.Common.{ap, ◌∙◌}
use Rattle.function_spec.specs.Functions.{IsFilledText}
use Rattle.function_spec.specs.Words.{trim}
use Rattle.text_functions.proofs.Parting.{adds_none, adds_some}
use Rattle.text_functions.proofs.Telling.{filled_as}
use Rattle.text_functions.proofs.splits.push_trimmed.Goals as goal

pub returns-in_default : goal.returns-in_default
returns-in_default c =
    let same = c.as_slice.ensures.value ∙ c.in_ok-trimmed.ensures ∙ ap trim c.as_bytes.ensures.value in
    adds_none (IsFilledText (trim c.args.part.now)) c.in_ok-value.field-0 _
    (filled_as c.as_slice.result.now (trim c.args.part.now) c.in_ok-value.field-0 c.in_ok-value.ensures same) c.in_default.is

pub returns : goal.returns
returns c =
    let same = c.as_slice.ensures.value ∙ c.in_ok-trimmed.ensures ∙ ap trim c.as_bytes.ensures.value in
    adds_some (IsFilledText (trim c.args.part.now)) c.in_ok-value.field-0 c.in-Some.value _ _
    (filled_as c.as_slice.result.now (trim c.args.part.now) c.in_ok-value.field-0 c.in_ok-value.ensures same) c.in-Some.is c.in_ok-push.ensures.items
