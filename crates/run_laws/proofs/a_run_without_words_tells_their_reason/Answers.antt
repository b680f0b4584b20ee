use Rattle.run_laws.proofs.Order.{reason_told}
use Rattle.run_laws.proofs.a_run_without_words_tells_their_reason.Goals as goal

pub returns : goal.returns
returns c = λ output errors words before after trace exit run. reason_told output errors words before after trace exit run
