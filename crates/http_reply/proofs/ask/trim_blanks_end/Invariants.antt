use Rattle.std.proofs.Common.{◌≡◌, ◌≤◌, reverse, slice_range, length}
use Rattle.httparse.specs.Grammar.{skip_ows}
use Rattle.http_reply.proofs.ask.trim_blanks_end.Given as goal

abbrev pub invariant-loop-end : goal.invariant-loop-end
invariant-loop-end l =
    (l.end ≤ length l.word)
    × (reverse (skip_ows (reverse l.word)) ≡ reverse (skip_ows (reverse (slice_range l.word 0 l.end))))

abbrev pub decreases-loop-end : goal.decreases-loop-end
decreases-loop-end l = l.end
