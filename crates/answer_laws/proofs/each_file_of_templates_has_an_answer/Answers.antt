use Rattle.answer_laws.proofs.Templates.{templates_answer}
use Rattle.answer_laws.proofs.each_file_of_templates_has_an_answer.Goals as goal

pub returns : goal.returns
returns c = templates_answer
