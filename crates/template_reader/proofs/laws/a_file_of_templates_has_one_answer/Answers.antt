use Rattle.template_reader.proofs.TemplateFiles.{one_answer}
use Rattle.template_reader.proofs.laws.a_file_of_templates_has_one_answer.Goals as goal

pub returns : goal.returns
returns c = one_answer
