use Rattle.std.proofs.Common.{◌≡◌, ◌++◌, length, map}
use Rattle.bibtex_source.specs.Readable.{people}
use Rattle.bibtex_source.proofs.people.people.Given as goal

abbrev pub invariant-fields : goal.invariant-fields
invariant-fields l = l.names.items ++ people l.name l.rest ≡ people l.name l.fields

abbrev pub decreases-fields : goal.decreases-fields
decreases-fields l = length l.rest
