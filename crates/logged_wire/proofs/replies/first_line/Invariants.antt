use Rattle.std.proofs.Common.{◌≡◌, drop}
use Rattle.logged_wire.specs.Logged.{first_line}
use Rattle.logged_wire.proofs.replies.first_line.Given as goal

abbrev pub invariant-loop-at : goal.invariant-loop-at
invariant-loop-at l = first_line (drop l.at l.bytes) ≡ first_line l.bytes
