use Rattle.data_texts.proofs.TheTouching.{the_touching}
use Rattle.data_texts.proofs.edits.touching_has_a_test.Goals as goal

pub returns : goal.returns
returns c = the_touching
