use Rattle.std.proofs.Common.{◌≡◌, ◌++◌, length}
use Rattle.text_source.specs.Cuts.{plain}
use Rattle.text_source.proofs.lines.plain_text.Given as goal

abbrev pub invariant-bytes : goal.invariant-bytes
invariant-bytes l = plain l.text ≡ l.plain.items ++ plain l.rest

abbrev pub decreases-bytes : goal.decreases-bytes
decreases-bytes l = length l.rest
