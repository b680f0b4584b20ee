use Rattle.std.proofs.Common.{◌≡◌, length}
use Rattle.bibtex_source.specs.Source.{before_mark}
use Rattle.bibtex_source.proofs.own.before_mark.Given as goal

abbrev pub invariant-bytes : goal.invariant-bytes
invariant-bytes l = before_mark l.rest ≡ before_mark l.bytes

abbrev pub decreases-bytes : goal.decreases-bytes
decreases-bytes l = length l.rest
