use Rattle.answer_laws.proofs.Edits.{edit_answer}
use Rattle.answer_laws.proofs.tokens.each_edit_has_an_answer.Goals as goal

pub returns : goal.returns
returns c = edit_answer
