use Rattle.site_build.specs.Ranges.{AreRanges, range_at}
use Rattle.site_build.proofs.ranges.ranges_of.Given as goal

-- the links so far stand in the ranges so far
abbrev pub invariant-loop-place : goal.invariant-loop-place
invariant-loop-place l = AreRanges l.links l.place (range_at l.ranges)
