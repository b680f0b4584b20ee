use Rattle.std.proofs.Common.{◌≡◌, ◌++◌, length}
use Rattle.bibtex_source.proofs.inherited.put_fields.Given as goal

abbrev pub invariant-fields : goal.invariant-fields
invariant-fields l = l.all.items ++ l.rest ≡ l.fn.all.items ++ l.fields

abbrev pub decreases-fields : goal.decreases-fields
decreases-fields l = length l.rest
