use Rattle.site_inputs.specs.Sites.{site_at}
use Rattle.site_files.proofs.Standing.{written_stands}
use Rattle.command_build.proofs.laws.written_files_stand.Goals as goal

pub returns : goal.returns
returns c = λ s folder terms root. written_stands (site_at s) s.templates folder terms root
