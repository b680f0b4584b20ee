use Rattle.std.proofs.Common.{length}
use Rattle.bibtex_spec.specs.Bytes.{is_digit}
use Rattle.bibtex_bytes.proofs.Runs.{IsFront}
use Rattle.bibtex_bytes.proofs.digits.Given as goal

abbrev pub invariant-digits : goal.invariant-digits
invariant-digits l = IsFront is_digit l.word.items l.rest l.bytes

abbrev pub decreases-digits : goal.decreases-digits
decreases-digits l = length l.rest
