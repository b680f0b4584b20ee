use Rattle.weight_spec.specs.Site.{site_of}
use Rattle.outcome_laws.proofs.QuerySites.{site_listed}
use Rattle.outcome_laws.proofs.Outcomes.{text_or_loops}
use Rattle.outcome_laws.proofs.each_value_ends_or_loops.Goals as goal

pub returns : goal.returns
returns c graph query file v k h = text_or_loops (site_of graph query) (site_listed graph query) file v (k, h)
