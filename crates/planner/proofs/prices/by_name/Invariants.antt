use Rattle.std.proofs.Common.{◌≤◌, length, drop}
use Rattle.planner.specs.Prices.{CountsAs}
use Rattle.planner.proofs.prices.by_name.Given as goal

abbrev pub invariant-loop-rest : goal.invariant-loop-rest
invariant-loop-rest l = (l.rest ≤ length l.counted) × CountsAs (drop l.rest l.counted) l.counts

abbrev pub decreases-loop-rest : goal.decreases-loop-rest
decreases-loop-rest l = l.rest
