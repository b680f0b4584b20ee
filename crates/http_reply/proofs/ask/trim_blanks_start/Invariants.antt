use Rattle.std.proofs.Common.{◌≡◌, ◌-◌, ◌≤◌, slice_range, length}
use Rattle.httparse.specs.Grammar.{skip_ows}
use Rattle.http_reply.proofs.ask.trim_blanks_start.Given as goal

abbrev pub invariant-loop-start : goal.invariant-loop-start
invariant-loop-start l =
    (l.start ≤ length l.word) × (skip_ows l.word ≡ skip_ows (slice_range l.word l.start (length l.word)))

abbrev pub decreases-loop-start : goal.decreases-loop-start
decreases-loop-start l = length l.word - l.start
