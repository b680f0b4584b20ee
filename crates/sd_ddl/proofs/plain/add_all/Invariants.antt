use Rattle.std.proofs.Common.{length}
use Rattle.sd_ddl.proofs.Plainly.{Reached}
use Rattle.sd_ddl.proofs.plain.add_all.Given as goal

abbrev pub invariant-statements : goal.invariant-statements
invariant-statements l = Reached l.start.at l.start.bytes.now l.fn.graph l.rest.at l.rest.bytes.now l.graph

abbrev pub decreases-statements : goal.decreases-statements
decreases-statements l = length l.rest.bytes.now
