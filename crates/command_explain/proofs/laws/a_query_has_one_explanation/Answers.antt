use Rattle.command_explain.proofs.Once.{one_explanation}
use Rattle.command_explain.proofs.laws.a_query_has_one_explanation.Goals as goal

pub returns : goal.returns
returns c = one_explanation
