use Rattle.command_trial.proofs.Once.{one_trial}
use Rattle.command_trial.proofs.laws.a_trial_has_one_text.Goals as goal

pub returns : goal.returns
returns c = one_trial
