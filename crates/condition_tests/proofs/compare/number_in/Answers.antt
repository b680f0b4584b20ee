use Rattle.std.proofs.Common.{ap, ◌∙◌}
use Rattle.std.specs.Result.{result_ok}
use Rattle.condition_tests.proofs.Numbers.{spelled_utf8, spelled_parsed}
use Rattle.condition_tests.proofs.compare.number_in.Goals as goal

pub returns-in-Err : goal.returns-in-Err
returns-in-Err c = λ n e r. absurd (c.in-Err.ensures.cases.0 (spelled_utf8 n c.args.text.now r e))

pub returns-in-Ok : goal.returns-in-Ok
returns-in-Ok c = λ n e r. c.ok.ensures.value ∙ ap result_ok (spelled_parsed n c.in-Ok.text.now c.parse.result r (c.in-Ok.ensures.cases.0 ∙ e) c.parse.ensures.value.0)
