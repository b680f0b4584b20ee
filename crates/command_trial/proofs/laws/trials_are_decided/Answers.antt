use Rattle.command_trial.proofs.Once.{trial_decides}
use Rattle.command_trial.proofs.laws.trials_are_decided.Goals as goal

pub returns : goal.returns
returns c = trial_decides
