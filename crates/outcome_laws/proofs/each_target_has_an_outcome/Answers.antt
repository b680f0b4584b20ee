use Rattle.weight_spec.specs.Site.{site_of}
use Rattle.outcome_laws.proofs.QuerySites.{site_listed}
use Rattle.outcome_laws.proofs.Outcomes.{at_target}
use Rattle.outcome_laws.proofs.each_target_has_an_outcome.Goals as goal

pub returns : goal.returns
returns c root graph query file target = at_target (site_of graph query) (site_listed graph query) file root target
