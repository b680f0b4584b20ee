use Rattle.std.proofs.Common.{length}
use Rattle.site_build.proofs.repeats.+name_width.Given as goal

abbrev pub decreases-name_width : goal.decreases-name_width
decreases-name_width l = length l.variables.now
