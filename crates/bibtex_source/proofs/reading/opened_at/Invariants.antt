use Rattle.std.proofs.Common.{◌≡◌, ◌≤◌, length}
use Rattle.grammar.specs.Reading.{with_front}
use Rattle.bibtex_spec.specs.Reading.{opened, enclosed}
use Rattle.bibtex_source.proofs.reading.opened_at.Given as goal

abbrev pub invariant-bytes : goal.invariant-bytes
invariant-bytes l =
    (with_front l.text.items (enclosed l.close l.depth l.rest) ≡ opened l.close l.bytes)
    × (length l.rest ≤ length l.bytes)

abbrev pub decreases-bytes : goal.decreases-bytes
decreases-bytes l = length l.rest
