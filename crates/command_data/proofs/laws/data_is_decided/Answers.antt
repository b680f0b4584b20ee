use Rattle.command_data.proofs.Law.{text_decides}
use Rattle.command_data.proofs.laws.data_is_decided.Goals as goal

pub returns : goal.returns
returns c = text_decides
