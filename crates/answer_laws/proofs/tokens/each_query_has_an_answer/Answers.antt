use Rattle.answer_laws.proofs.Queries.{query_answer}
use Rattle.answer_laws.proofs.tokens.each_query_has_an_answer.Goals as goal

pub returns : goal.returns
returns c = query_answer
