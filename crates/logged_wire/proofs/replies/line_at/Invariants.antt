use Rattle.std.proofs.Common.{◌≡◌, ◌++◌, take, drop}
use Rattle.logged_wire.specs.Logged.{line_at}
use Rattle.logged_wire.proofs.replies.line_at.Given as goal

abbrev pub invariant-loop-at : goal.invariant-loop-at
invariant-loop-at l = line_at l.bytes ≡ take l.at l.bytes ++ line_at (drop l.at l.bytes)
