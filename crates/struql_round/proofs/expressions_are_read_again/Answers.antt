use Rattle.struql_round.proofs.Spelled.{spelt_within}
use Rattle.struql_round.proofs.expressions_are_read_again.Goals as goal

pub returns : goal.returns
returns c = spelt_within
