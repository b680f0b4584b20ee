use Rattle.std.proofs.Common.{◌≤◌, ◌-◌, length, drop}
use Rattle.http_spec.specs.Heads.{AreLineEnds}
use Rattle.http_reply.proofs.buffer.are_line_ends.Given as goal

abbrev pub invariant-loop-at : goal.invariant-loop-at
invariant-loop-at l =
    (l.at ≤ length l.bytes)
    × (AreLineEnds (drop l.at l.bytes) → AreLineEnds l.bytes)
    × (AreLineEnds l.bytes → AreLineEnds (drop l.at l.bytes))

abbrev pub decreases-loop-at : goal.decreases-loop-at
decreases-loop-at l = length l.bytes - l.at
