use Rattle.std.proofs.Common.{◌≡◌, ◌++◌, length, map}
use Rattle.bibtex_spec.specs.Bytes.{lower}
use Rattle.bibtex_bytes.proofs.lowered.Given as goal

abbrev pub invariant-lowered : goal.invariant-lowered
invariant-lowered l = l.word.items ++ map lower l.rest ≡ map lower l.bytes

abbrev pub decreases-lowered : goal.decreases-lowered
decreases-lowered l = length l.rest
