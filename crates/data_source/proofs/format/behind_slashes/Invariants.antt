use Rattle.std.proofs.Common.{◌≡◌, length}
use Rattle.data_source.specs.Formats.{behind_slashes}
use Rattle.data_source.proofs.Names.{name_so_far}
use Rattle.data_source.proofs.format.behind_slashes.Given as goal

abbrev pub invariant-bytes : goal.invariant-bytes
invariant-bytes l = name_so_far l.name l.rest ≡ behind_slashes l.path

abbrev pub decreases-bytes : goal.decreases-bytes
decreases-bytes l = length l.rest
