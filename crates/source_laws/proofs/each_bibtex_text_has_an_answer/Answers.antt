use Rattle.source_laws.proofs.Bibtex.{bibtex_answer}
use Rattle.source_laws.proofs.each_bibtex_text_has_an_answer.Goals as goal

pub returns : goal.returns
returns c = bibtex_answer
