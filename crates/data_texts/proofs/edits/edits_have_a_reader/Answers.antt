use Rattle.data_texts.proofs.TheEdits.{the_edits}
use Rattle.data_texts.proofs.edits.edits_have_a_reader.Goals as goal

pub returns : goal.returns
returns c = the_edits
