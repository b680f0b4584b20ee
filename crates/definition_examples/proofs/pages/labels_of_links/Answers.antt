use Rattle.std.proofs.Common.{refl}
use Rattle.definition_examples.proofs.pages.labels_of_links.Goals as goal

pub returns : goal.returns
returns c = record { led = refl; active = refl; int = refl }
