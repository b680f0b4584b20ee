use Rattle.answer_laws.proofs.Scripts.{script_answer}
use Rattle.answer_laws.proofs.tokens.each_script_has_an_answer.Goals as goal

pub returns : goal.returns
returns c = script_answer
