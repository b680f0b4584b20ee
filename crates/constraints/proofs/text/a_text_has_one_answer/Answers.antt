use Rattle.constraints.proofs.Once.{one_answer}
use Rattle.constraints.proofs.text.a_text_has_one_answer.Goals as goal

pub returns : goal.returns
returns c = one_answer
