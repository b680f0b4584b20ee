use Rattle.struql_round.proofs.ParsedQueries.{parsed_again}
use Rattle.struql_round.proofs.queries.parsed_queries_are_read_again.Goals as goal

pub returns : goal.returns
returns c = parsed_again
