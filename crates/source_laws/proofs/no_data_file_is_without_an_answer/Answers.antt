use Rattle.source_laws.proofs.DataFiles.{no_file_is_without}
use Rattle.source_laws.proofs.no_data_file_is_without_an_answer.Goals as goal

pub returns : goal.returns
returns c = no_file_is_without
