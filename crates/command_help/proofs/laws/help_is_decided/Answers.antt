use Rattle.command_help.proofs.Law.{help_decides}
use Rattle.command_help.proofs.laws.help_is_decided.Goals as goal

pub returns : goal.returns
returns c = help_decides
