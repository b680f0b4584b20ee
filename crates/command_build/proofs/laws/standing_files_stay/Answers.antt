use Rattle.site_inputs.specs.Sites.{site_at}
use Rattle.site_files.proofs.Standing.{standing_stays}
use Rattle.command_build.proofs.laws.standing_files_stay.Goals as goal

pub returns : goal.returns
returns c = λ s folder terms root. standing_stays (site_at s) s.templates folder terms root
