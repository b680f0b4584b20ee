use Rattle.std.proofs.Common.{length}
use Rattle.bibtex_spec.specs.Bytes.{is_name_byte}
use Rattle.bibtex_bytes.proofs.Runs.{IsLowerFront}
use Rattle.bibtex_bytes.proofs.name_bytes.Given as goal

abbrev pub invariant-name : goal.invariant-name
invariant-name l = IsLowerFront (is_name_byte l.wide) l.name.items l.rest l.bytes

abbrev pub decreases-name : goal.decreases-name
decreases-name l = length l.rest
