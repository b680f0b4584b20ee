use Rattle.std.proofs.Common.{◌≡◌, ◌++◌, length}
use Rattle.bibtex_source.specs.Source.{lacking}
use Rattle.bibtex_source.proofs.inherited.put_lacking.Given as goal

abbrev pub invariant-fields : goal.invariant-fields
invariant-fields l = l.all.items ++ lacking l.own l.rest ≡ l.fn.all.items ++ lacking l.own l.fields

abbrev pub decreases-fields : goal.decreases-fields
decreases-fields l = length l.rest
