use Rattle.command_check.proofs.Whole.{yes_is_shown}
use Rattle.command_check.proofs.verdict_laws.all_yes_means_certificates.Goals as goal

pub returns : goal.returns
returns c = yes_is_shown
