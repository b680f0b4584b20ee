use Rattle.std.proofs.Common.{◌≡◌, ◌++◌, length, map}
use Rattle.bibtex_source.specs.Readable.{without_stop}
use Rattle.bibtex_source.proofs.readable.without_stop.Given as goal

abbrev pub invariant-bytes : goal.invariant-bytes
invariant-bytes l = l.kept.items ++ without_stop l.rest ≡ without_stop l.text

abbrev pub decreases-bytes : goal.decreases-bytes
decreases-bytes l = length l.rest
