use Rattle.source_laws.proofs.DataFiles.{file_answer}
use Rattle.source_laws.proofs.each_data_file_has_an_answer.Goals as goal

pub returns : goal.returns
returns c = file_answer
