use Rattle.std.proofs.Common.{◌≡◌, ◌++◌, length}
use Rattle.bibtex_spec.specs.Values.{tidy, tidy_from}
use Rattle.bibtex_source.proofs.values.tidy.Given as goal

abbrev pub invariant-bytes : goal.invariant-bytes
invariant-bytes l = l.text.items ++ tidy_from l.owed l.rest ≡ tidy l.bytes

abbrev pub decreases-bytes : goal.decreases-bytes
decreases-bytes l = length l.rest
