use Rattle.std.proofs.Common.{length}
use Rattle.tex_text.proofs.Turns.{IsReached}
use Rattle.tex_text.proofs.shown.Given as goal

abbrev pub invariant-elements : goal.invariant-elements
invariant-elements l = IsReached l.bytes l.text.items l.accents l.rest

abbrev pub decreases-elements : goal.decreases-elements
decreases-elements l = length l.rest
