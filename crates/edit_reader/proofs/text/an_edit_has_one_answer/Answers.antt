use Rattle.edit_reader.proofs.Once.{one_answer}
use Rattle.edit_reader.proofs.text.an_edit_has_one_answer.Goals as goal

pub returns : goal.returns
returns c = one_answer
