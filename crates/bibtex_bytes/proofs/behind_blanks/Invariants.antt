use Rattle.std.proofs.Common.{◌≡◌, ◌≤◌, length}
use Rattle.bibtex_spec.specs.Bytes.{is_blank, behind}
use Rattle.bibtex_bytes.proofs.behind_blanks.Given as goal

abbrev pub invariant-blanks : goal.invariant-blanks
invariant-blanks l = (behind is_blank l.rest ≡ behind is_blank l.bytes) × (length l.rest ≤ length l.bytes)

abbrev pub decreases-blanks : goal.decreases-blanks
decreases-blanks l = length l.rest
