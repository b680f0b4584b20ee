use Rattle.query_reader.proofs.QueryText.{one_answer}
use Rattle.query_reader.proofs.laws.a_query_text_has_one_answer.Goals as goal

pub returns : goal.returns
returns c = one_answer
