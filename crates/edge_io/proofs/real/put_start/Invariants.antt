use Rattle.std.proofs.Common.{length, ◌≤◌}
use Rattle.edge_io.proofs.real.put_start.Given as goal

abbrev pub invariant-loop : goal.invariant-loop
invariant-loop g l = l.taken ≤ length l.bytes
