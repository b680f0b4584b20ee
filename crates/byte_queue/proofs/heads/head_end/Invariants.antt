use Rattle.std.proofs.Common.{◌≡◌, ◌<◌, true}
use Rattle.byte_queue.proofs.heads.head_end.Given as goal

abbrev pub invariant-loop-at : goal.invariant-loop-at
invariant-loop-at l = l.blank ≡ true → 0 < l.at
