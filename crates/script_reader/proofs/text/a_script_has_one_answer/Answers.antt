use Rattle.script_reader.proofs.Once.{one_answer}
use Rattle.script_reader.proofs.text.a_script_has_one_answer.Goals as goal

pub returns : goal.returns
returns c = one_answer
