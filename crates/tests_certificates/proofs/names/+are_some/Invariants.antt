use Rattle.std.proofs.Common.{length}
use Rattle.tests_certificates.proofs.names.+are_some.Given as goal

abbrev pub decreases-are_some : goal.decreases-are_some
decreases-are_some l = length l.variables.now
