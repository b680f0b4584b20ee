use Rattle.data_source.proofs.Names.{name_length}
use Rattle.data_source.proofs.format.folder_of.Goals as goal

pub slice_bounds-folders-count : goal.slice_bounds-folders-count
slice_bounds-folders-count c = rw c.behind_slashes-name.ensures (name_length c.args.path.now)
