use Rattle.trial_site.proofs.Query.{query_accepted}
use Rattle.trial_site.proofs.laws.a_trials_query_is_accepted.Goals as goal

pub returns : goal.returns
returns c = query_accepted
