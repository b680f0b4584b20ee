use Rattle.bibtex_laws.proofs.Whole.{one_text}
use Rattle.bibtex_laws.proofs.a_text_spells_one_list.Goals as goal

pub returns : goal.returns
returns c = one_text
