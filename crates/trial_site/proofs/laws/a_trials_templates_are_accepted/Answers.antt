use Rattle.trial_site.proofs.Templates.{templates_accepted}
use Rattle.trial_site.proofs.laws.a_trials_templates_are_accepted.Goals as goal

pub returns : goal.returns
returns c = templates_accepted
