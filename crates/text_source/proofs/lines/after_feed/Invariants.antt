use Rattle.std.proofs.Common.{◌≡◌, length}
use Rattle.text_source.specs.Cuts.{after_feed}
use Rattle.text_source.proofs.lines.after_feed.Given as goal

abbrev pub invariant-bytes : goal.invariant-bytes
invariant-bytes l = after_feed l.text ≡ after_feed l.rest

abbrev pub decreases-bytes : goal.decreases-bytes
decreases-bytes l = length l.rest
