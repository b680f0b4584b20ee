use Rattle.std.proofs.Common.{length}
use Rattle.bibtex_spec.specs.Bytes.{is_key_byte}
use Rattle.bibtex_bytes.proofs.Runs.{IsFront}
use Rattle.bibtex_bytes.proofs.key_bytes.Given as goal

abbrev pub invariant-key : goal.invariant-key
invariant-key l = IsFront is_key_byte l.word.items l.rest l.bytes

abbrev pub decreases-key : goal.decreases-key
decreases-key l = length l.rest
