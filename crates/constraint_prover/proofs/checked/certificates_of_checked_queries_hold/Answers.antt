use Rattle.site_spec.specs.Site.{scope_of}
use Rattle.struql_ast.specs.Reading.{query_of}
use Rattle.constraint_laws.proofs.Certified.{certified}
use Rattle.constraint_prover.proofs.Bound.{all_checked}
use Rattle.constraint_prover.proofs.checked.certificates_of_checked_queries_hold.Goals as goal

pub returns : goal.returns
returns c = λ q faultless parsed k x h G. certified (scope_of (query_of q)) (all_checked q faultless parsed) G k x h
