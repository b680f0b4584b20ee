use Rattle.std.proofs.Common.{refl}
use Rattle.definition_examples.proofs.pages.worked_addresses.Goals as goal

pub returns : goal.returns
returns c = record { spaced = refl; alone = refl; escaped = refl; absolute = refl; no_path = refl; no_escape = refl }
