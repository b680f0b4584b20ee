use Rattle.std.proofs.Common.{refl}
use Rattle.definition_examples.proofs.pages.worked_texts.Goals as goal

pub returns : goal.returns
returns c = record { escaped = refl; raw = refl; lines = refl; url = refl; percent = refl; json = refl }
