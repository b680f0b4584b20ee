use Rattle.std.proofs.Common.{length}
use Rattle.certificate_search.proofs.renaming.+name_for.Given as goal

abbrev pub decreases-name_for : goal.decreases-name_for
decreases-name_for l = length l.variables.now
