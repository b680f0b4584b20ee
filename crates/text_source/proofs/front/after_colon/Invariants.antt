use Rattle.std.proofs.Common.{◌≡◌, length}
use Rattle.text_source.specs.Front.{after_colon}
use Rattle.text_source.proofs.front.after_colon.Given as goal

abbrev pub invariant-bytes : goal.invariant-bytes
invariant-bytes l = after_colon l.line ≡ after_colon l.rest

abbrev pub decreases-bytes : goal.decreases-bytes
decreases-bytes l = length l.rest
