use Rattle.compose.proofs.Encodings.{encoded_injective}
use Rattle.compose.proofs.laws.encodings_differ.Goals as goal

pub returns : goal.returns
returns c = encoded_injective
