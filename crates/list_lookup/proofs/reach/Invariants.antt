use Rattle.std.proofs.Common.{length, ◌-◌, ◌≤◌}
use Rattle.list_lookup.proofs.reach.Given as goal

abbrev pub invariant-loop-near : goal.invariant-loop-near
invariant-loop-near g l = 1 ≤ l.near

abbrev pub decreases-loop-near : goal.decreases-loop-near
decreases-loop-near g l = length l.items - l.near
