use Rattle.std.proofs.Common.{◌∙◌, ◌+◌, ◌-◌, ap, length}
use Rattle.std.proofs.lemmas.Str.{is_utf8-from_IsUtf8}
use Rattle.text_source.specs.declared.refusal.TextFileRefusal.TheVariants.{NotUtf8}
use Rattle.text_source.proofs.Steps.{no_text}
use Rattle.text_source.proofs.statements.check_text.Goals as goal

pub returns-in-Ok : goal.returns-in-Ok
returns-in-Ok c = is_utf8-from_IsUtf8 c.args.text.now c.in-Ok.ensures.cases.1

pub returns-in-Err : goal.returns-in-Err
returns-in-Err c = (
  no_text c.args.text.now c.in-Err.ensures.cases.0,
  ap (λ n. NotUtf8 (c.args.size - length c.args.text.now + n)) (c.valid_up_to.ensures ∙ c.in-Err.ensures.valid_len),
)
