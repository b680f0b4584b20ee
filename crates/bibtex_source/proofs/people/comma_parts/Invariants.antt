use Rattle.std.proofs.Common.{length}
use Rattle.bibtex_source.proofs.Commas.{IsCut}
use Rattle.bibtex_source.proofs.people.comma_parts.Given as goal

abbrev pub invariant-bytes : goal.invariant-bytes
invariant-bytes l = IsCut l.parts.items l.part.items l.depth l.rest l.name

abbrev pub decreases-bytes : goal.decreases-bytes
decreases-bytes l = length l.rest
