use Rattle.std.proofs.Common.{◌≤◌, length}
use Rattle.bibtex_spec.specs.Reading.{read_fields}
use Rattle.bibtex_source.proofs.Loops.{IsListed}
use Rattle.bibtex_source.proofs.reading.fields_at.Given as goal

abbrev pub invariant-fields : goal.invariant-fields
invariant-fields l = IsListed l.macros l.fields.items l.rest (read_fields l.macros l.bytes) × (length l.rest ≤ length l.bytes)

abbrev pub decreases-fields : goal.decreases-fields
decreases-fields l = length l.rest
