use Rattle.struql_round.proofs.Whole.{query_again}
use Rattle.struql_round.proofs.queries.queries_are_read_again.Goals as goal

pub returns : goal.returns
returns c q limit = query_again limit q
