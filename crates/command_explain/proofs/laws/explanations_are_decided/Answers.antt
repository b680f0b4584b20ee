use Rattle.command_explain.proofs.Law.{explain_decides}
use Rattle.command_explain.proofs.laws.explanations_are_decided.Goals as goal

pub returns : goal.returns
returns c = explain_decides
