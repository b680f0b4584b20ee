use Rattle.std.proofs.Common.{refl}
use Rattle.std.specs.List.{flat_map}
use Rattle.token_writer.specs.Writing.{escaped_byte}
use Rattle.token_writer.proofs.Quotes.{text_spells}
use Rattle.token_writer.proofs.laws.quoted_text_is_its_token.Goals as goal

pub returns : goal.returns
returns c text = (flat_map escaped_byte text, refl, text_spells text)
