use Rattle.file_list.proofs.Leaving.{cut_is_mended}
use Rattle.file_list.proofs.laws.builds_are_mended.Goals as goal

pub returns : goal.returns
returns c = cut_is_mended
