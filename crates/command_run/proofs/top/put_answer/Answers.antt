use Rattle.command_run.specs.Top.{text_report}
use Rattle.command_run.proofs.Answered.{fault_told}
use Rattle.command_run.proofs.Ends.{no_usage}
use Rattle.command_run.proofs.top.put_answer.Goals as goal

pub returns-clause-ends : goal.returns-clause-ends
returns-clause-ends g c = fault_told text_report c.in-Err.fault c.args.answer _ _ c.in-Err.is c.from.ensures

pub returns-clause-words : goal.returns-clause-words
returns-clause-words g c = no_usage c.in-Err.fault _ c.from.ensures
