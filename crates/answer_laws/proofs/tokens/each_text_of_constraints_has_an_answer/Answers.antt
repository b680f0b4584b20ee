use Rattle.answer_laws.proofs.Constraints.{constraints_answer}
use Rattle.answer_laws.proofs.tokens.each_text_of_constraints_has_an_answer.Goals as goal

pub returns : goal.returns
returns c = constraints_answer
