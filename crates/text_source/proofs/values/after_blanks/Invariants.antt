use Rattle.std.proofs.Common.{◌≡◌, length}
use Rattle.text_source.specs.Values.{after_blanks}
use Rattle.text_source.proofs.values.after_blanks.Given as goal

abbrev pub invariant-bytes : goal.invariant-bytes
invariant-bytes l = after_blanks l.bytes ≡ after_blanks l.rest

abbrev pub decreases-bytes : goal.decreases-bytes
decreases-bytes l = length l.rest
