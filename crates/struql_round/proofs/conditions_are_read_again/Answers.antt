use Rattle.struql_round.proofs.Conditions.{condition_spelt}
use Rattle.struql_round.proofs.conditions_are_read_again.Goals as goal

pub returns : goal.returns
returns c = condition_spelt
