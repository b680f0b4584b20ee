use Rattle.ddl_laws.proofs.DataText.{one_answer}
use Rattle.ddl_laws.proofs.answer.a_data_text_has_one_answer.Goals as goal

pub returns : goal.returns
returns c = one_answer
