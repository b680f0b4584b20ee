use Rattle.std.proofs.Common.{◌≡◌, ◌++◌, length, map}
use Rattle.bibtex_source.specs.Readable.{listed}
use Rattle.bibtex_source.proofs.people.listed.Given as goal

abbrev pub invariant-names : goal.invariant-names
invariant-names l = l.text.items ++ listed l.rest ≡ listed l.names

abbrev pub decreases-names : goal.decreases-names
decreases-names l = length l.rest
