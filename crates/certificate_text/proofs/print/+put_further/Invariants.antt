use Rattle.std.proofs.Common.{length}
use Rattle.certificate_text.proofs.print.+put_further.Given as goal

abbrev pub decreases-put_further : goal.decreases-put_further
decreases-put_further l = length l.variables.now
