use Rattle.std.proofs.Common.{◌≡◌, length}
use Rattle.text_source.specs.Values.{before_blanks}
use Rattle.text_source.proofs.values.before_blanks.Given as goal

abbrev pub invariant-bytes : goal.invariant-bytes
invariant-bytes l = before_blanks l.bytes ≡ before_blanks l.rest

abbrev pub decreases-bytes : goal.decreases-bytes
decreases-bytes l = length l.rest
