use Rattle.std.proofs.Common.{length}
use Rattle.bibtex_spec.specs.Bytes.{is_name_byte}
use Rattle.bibtex_bytes.proofs.Runs.{IsFront}
use Rattle.bibtex_bytes.proofs.written_bytes.Given as goal

abbrev pub invariant-written : goal.invariant-written
invariant-written l = IsFront (is_name_byte l.wide) l.word.items l.rest l.bytes

abbrev pub decreases-written : goal.decreases-written
decreases-written l = length l.rest
