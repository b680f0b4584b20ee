use Rattle.struql_text.proofs.ConditionParts.{read_as_spelled}
use Rattle.struql_text.proofs.laws.conditions_are_read_as_spelled.Goals as goal

pub returns : goal.returns
returns c = read_as_spelled
