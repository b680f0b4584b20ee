use Rattle.command_answers.proofs.Law.{report_answer_decides}
use Rattle.command_answers.proofs.laws.reports_are_decided.Goals as goal

pub returns : goal.returns
returns c = report_answer_decides
