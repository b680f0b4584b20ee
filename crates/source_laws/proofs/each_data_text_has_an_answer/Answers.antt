use Rattle.source_laws.proofs.DataTexts.{data_answer}
use Rattle.source_laws.proofs.each_data_text_has_an_answer.Goals as goal

pub returns : goal.returns
returns c = data_answer
