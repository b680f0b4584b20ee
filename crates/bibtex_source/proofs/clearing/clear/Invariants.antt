use Rattle.std.proofs.Common.{◌≡◌, ◌++◌, length}
use Rattle.bibtex_spec.specs.Clear.{cleared_from, cleared}
use Rattle.bibtex_source.proofs.clearing.clear.Given as goal

abbrev pub invariant-bytes : goal.invariant-bytes
invariant-bytes l = l.text.items ++ cleared_from l.comment l.spot l.rest ≡ cleared l.bytes

abbrev pub decreases-bytes : goal.decreases-bytes
decreases-bytes l = length l.rest
