use Rattle.token_reader.proofs.Real.{text_real}
use Rattle.token_reader.proofs.laws.tokens_of_a_text_are_real.Goals as goal

pub returns : goal.returns
returns c = text_real
