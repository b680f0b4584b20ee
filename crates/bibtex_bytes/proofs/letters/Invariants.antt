use Rattle.std.proofs.Common.{length}
use Rattle.bibtex_spec.specs.Bytes.{is_letter}
use Rattle.bibtex_bytes.proofs.Runs.{IsLowerFront}
use Rattle.bibtex_bytes.proofs.letters.Given as goal

abbrev pub invariant-letters : goal.invariant-letters
invariant-letters l = IsLowerFront is_letter l.word.items l.rest l.bytes

abbrev pub decreases-letters : goal.decreases-letters
decreases-letters l = length l.rest
