use Rattle.candidate_values.proofs.Offers.{equals_before}
use Rattle.candidate_values.proofs.offer.compared_before.Goals as goal

pub returns-in_ok-values-in-Eq-clause-lists : goal.returns-in_ok-values-in-Eq-clause-lists
returns-in_ok-values-in-Eq-clause-lists c = rw c.in-Eq.is (equals_before c.args.version c.args.v.now _ c.in_ok-values-in-Eq.ensures)
