use Rattle.std.proofs.Common.{◌≡◌, length}
use Rattle.bibtex_source.specs.Source.{has_field}
use Rattle.bibtex_source.proofs.inherited.has_field.Given as goal

abbrev pub invariant-fields : goal.invariant-fields
invariant-fields l = has_field l.rest l.name ≡ has_field l.fields l.name

abbrev pub decreases-fields : goal.decreases-fields
decreases-fields l = length l.rest
