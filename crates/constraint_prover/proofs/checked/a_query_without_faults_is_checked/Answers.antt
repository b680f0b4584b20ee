use Rattle.constraint_prover.proofs.Bound.{all_checked}
use Rattle.constraint_prover.proofs.checked.a_query_without_faults_is_checked.Goals as goal

pub returns : goal.returns
returns c = all_checked
