use Rattle.std.proofs.Common.{◌≡◌, ◌++◌, length, map}
use Rattle.bibtex_source.specs.Readable.{read_text}
use Rattle.bibtex_source.proofs.readable.read_texts.Given as goal

abbrev pub invariant-texts : goal.invariant-texts
invariant-texts l = l.found.items ++ map (read_text l.name) l.rest ≡ map (read_text l.name) l.texts

abbrev pub decreases-texts : goal.decreases-texts
decreases-texts l = length l.rest
