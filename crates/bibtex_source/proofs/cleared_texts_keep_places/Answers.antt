use Rattle.bibtex_spec.specs.declared.Spot.TheVariants.{Outside}
use Rattle.std.proofs.Common.{false}
use Rattle.bibtex_source.proofs.Cleared.{as_long}
use Rattle.bibtex_source.proofs.cleared_texts_keep_places.Goals as goal

pub returns : goal.returns
returns c bytes = as_long false Outside bytes
