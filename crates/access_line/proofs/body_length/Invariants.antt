use Rattle.std.proofs.Common.{◌≡◌, drop}
use Rattle.access_line.specs.Line.{body_of}
use Rattle.access_line.proofs.body_length.Given as goal

abbrev pub invariant-loop-at : goal.invariant-loop-at
invariant-loop-at l = body_of (drop l.at l.reply) ≡ body_of l.reply
