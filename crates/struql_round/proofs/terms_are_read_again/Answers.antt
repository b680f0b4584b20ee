use Rattle.struql_round.proofs.Terms.{term_spelt}
use Rattle.struql_round.proofs.terms_are_read_again.Goals as goal

pub returns : goal.returns
returns c = term_spelt
