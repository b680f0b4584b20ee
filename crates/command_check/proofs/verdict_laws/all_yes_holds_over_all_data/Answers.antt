use Rattle.command_check.proofs.Whole.{yes_is_met}
use Rattle.command_check.proofs.verdict_laws.all_yes_holds_over_all_data.Goals as goal

pub returns : goal.returns
returns c = yes_is_met
