use Rattle.std.proofs.Common.{◌≡◌, length}
use Rattle.bibtex_source.specs.Source.{crossref_of}
use Rattle.bibtex_source.proofs.inherited.crossref_of.Given as goal

abbrev pub invariant-fields : goal.invariant-fields
invariant-fields l = crossref_of l.rest ≡ crossref_of l.fields

abbrev pub decreases-fields : goal.decreases-fields
decreases-fields l = length l.rest
