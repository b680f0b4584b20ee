use Rattle.data_source.proofs.Names.{name_start}
use Rattle.data_source.proofs.format.behind_slashes.Goals as goal

pub bytes-init : goal.bytes-init
bytes-init c = name_start c.args.path.now
