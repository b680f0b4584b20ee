use Rattle.command_answers.proofs.Law.{text_answer_decides}
use Rattle.command_answers.proofs.laws.texts_are_decided.Goals as goal

pub returns : goal.returns
returns c = text_answer_decides
