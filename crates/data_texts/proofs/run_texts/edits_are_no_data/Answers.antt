use Rattle.data_texts.proofs.Apart.{apart}
use Rattle.data_texts.proofs.run_texts.edits_are_no_data.Goals as goal

pub returns : goal.returns
returns c = apart
