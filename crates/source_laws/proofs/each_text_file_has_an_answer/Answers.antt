use Rattle.source_laws.proofs.Texts.{text_answer}
use Rattle.source_laws.proofs.each_text_file_has_an_answer.Goals as goal

pub returns : goal.returns
returns c = text_answer
