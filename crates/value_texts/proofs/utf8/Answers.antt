use Rattle.std.proofs.Common.{◌∙◌}
use Rattle.value_texts.proofs.Texts.{some_utf8, none_utf8}
use Rattle.value_texts.proofs.utf8.Goals as goal

pub returns-in_ok-text-in-Ok : goal.returns-in_ok-text-in-Ok
returns-in_ok-text-in-Ok c =
    some_utf8 c.args.text.now _ (rw c.bytes.ensures at c.in-Ok.ensures.cases.1)
    (c.in_ok-text-in-Ok.ensures.ok ∙ c.in-Ok.ensures.cases.0 ∙ c.bytes.ensures)

pub returns-in-Err : goal.returns-in-Err
returns-in-Err c = none_utf8 c.args.text.now (rw c.bytes.ensures at c.in-Err.ensures.cases.0)
