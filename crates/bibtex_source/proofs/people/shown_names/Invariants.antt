use Rattle.std.proofs.Common.{◌≡◌, ◌++◌, length, map}
use Rattle.bibtex_source.specs.Readable.{shown_name}
use Rattle.bibtex_source.proofs.people.shown_names.Given as goal

abbrev pub invariant-names : goal.invariant-names
invariant-names l = l.found.items ++ map shown_name l.rest ≡ map shown_name l.names

abbrev pub decreases-names : goal.decreases-names
decreases-names l = length l.rest
