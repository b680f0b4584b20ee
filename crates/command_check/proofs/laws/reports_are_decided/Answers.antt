use Rattle.command_check.proofs.Law.{here_decides}
use Rattle.command_check.proofs.laws.reports_are_decided.Goals as goal

pub returns : goal.returns
returns c = here_decides
