use Rattle.std.proofs.Common.{◌≡◌, length}
use Rattle.csv_source.specs.Separators.{first_separator}
use Rattle.csv_source.proofs.separator.first_separator.Given as goal

abbrev pub invariant-bytes : goal.invariant-bytes
invariant-bytes l = first_separator l.field ≡ first_separator l.rest

abbrev pub decreases-bytes : goal.decreases-bytes
decreases-bytes l = length l.rest
