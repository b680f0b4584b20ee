use Rattle.std.proofs.Common.{length}
use Rattle.bibtex_source.proofs.Tidied.{IsSplit}
use Rattle.bibtex_source.proofs.values.tidy_parts.Given as goal

abbrev pub invariant-bytes : goal.invariant-bytes
invariant-bytes l = IsSplit l.parts.items l.part.items l.depth l.rest l.text

abbrev pub decreases-bytes : goal.decreases-bytes
decreases-bytes l = length l.rest
