use Rattle.inclusion.proofs.Numbers.{printed_utf8, number_read}
use Rattle.inclusion.proofs.twins.number_in.Goals as goal

pub returns-in-Err : goal.returns-in-Err
returns-in-Err c = λ n short e. c.in-Err.ensures.cases.0 (printed_utf8 n c.args.text.now short e)

pub returns-in-Ok : goal.returns-in-Ok
returns-in-Ok c = number_read c.args.text.now c.in-Ok.text.now c.parse.result c.ok.result c.in-Ok.ensures.cases.0 c.parse.ensures.value.0 c.ok.ensures.value
