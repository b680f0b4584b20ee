use Rattle.std.proofs.Common.{◌≤◌, length}
use Rattle.std.specs.Prelude.{nat_eq}
use Rattle.grammar.specs.Reading.{iterate}
use Rattle.bibtex_spec.specs.Reading.{read_further}
use Rattle.bibtex_source.proofs.Loops.{IsIterated}
use Rattle.bibtex_source.proofs.reading.further_pieces_at.Given as goal

abbrev pub invariant-pieces : goal.invariant-pieces
invariant-pieces l =
    IsIterated (nat_eq 35) (read_further l.macros) l.text.items l.rest (iterate (nat_eq 35) (read_further l.macros) l.fn.first.items l.bytes)
    × (length l.rest ≤ length l.bytes)

abbrev pub decreases-pieces : goal.decreases-pieces
decreases-pieces l = length l.rest
