use Rattle.command_check.proofs.Answers.{one_answer}
use Rattle.command_check.proofs.laws.answers_are_decided.Goals as goal

pub returns : goal.returns
returns c = one_answer
