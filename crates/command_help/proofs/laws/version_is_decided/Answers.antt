use Rattle.command_help.proofs.Law.{version_decides}
use Rattle.command_help.proofs.laws.version_is_decided.Goals as goal

pub returns : goal.returns
returns c = version_decides
