use Rattle.std.proofs.Common.{◌≡◌, ◌++◌, length, map}
use Rattle.bibtex_source.specs.Readable.{filled}
use Rattle.bibtex_source.proofs.people.put_filled.Given as goal

abbrev pub invariant-texts : goal.invariant-texts
invariant-texts l = l.names.items ++ filled l.rest ≡ l.fn.names.items ++ filled l.texts

abbrev pub decreases-texts : goal.decreases-texts
decreases-texts l = length l.rest
