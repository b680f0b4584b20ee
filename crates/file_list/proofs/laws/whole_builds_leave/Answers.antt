use Rattle.file_list.proofs.Leaving.{whole_leaves}
use Rattle.file_list.proofs.laws.whole_builds_leave.Goals as goal

pub returns : goal.returns
returns c = whole_leaves
