use Rattle.weight_spec.specs.Site.{site_of}
use Rattle.outcome_laws.proofs.QuerySites.{site_listed}
use Rattle.outcome_laws.proofs.Trials.{trial_text}
use Rattle.outcome_laws.proofs.each_trial_has_a_text.Goals as goal

pub returns : goal.returns
returns c root graph query file entries = trial_text (site_of graph query) (site_listed graph query) file root entries
