use Rattle.source_laws.proofs.Lexed.{each_text}
use Rattle.answer_laws.proofs.each_text_has_tokens.Goals as goal

pub returns : goal.returns
returns c = each_text
