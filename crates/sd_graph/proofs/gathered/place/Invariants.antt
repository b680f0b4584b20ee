use Rattle.std.proofs.Common.{◌≤◌, length}
use Rattle.sd_graph.proofs.gathered.place.Given as goal

abbrev pub invariant-places : goal.invariant-places
invariant-places g l = l.at ≤ length l.items

abbrev pub decreases-places : goal.decreases-places
decreases-places g l = l.at
