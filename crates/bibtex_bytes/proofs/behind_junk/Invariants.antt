use Rattle.std.proofs.Common.{◌≡◌, ◌≤◌, length}
use Rattle.bibtex_spec.specs.Bytes.{is_junk, behind}
use Rattle.bibtex_bytes.proofs.behind_junk.Given as goal

abbrev pub invariant-junk : goal.invariant-junk
invariant-junk l = (behind is_junk l.rest ≡ behind is_junk l.bytes) × (length l.rest ≤ length l.bytes)

abbrev pub decreases-junk : goal.decreases-junk
decreases-junk l = length l.rest
