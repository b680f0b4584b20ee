use Rattle.std.proofs.Common.{◌≡◌, ◌+◌, length}
use Rattle.template_items.specs.Scanning.{text_run}
use Rattle.template_items.proofs.scanning.text_len.Given as goal

abbrev pub invariant-text : goal.invariant-text
invariant-text l = (l.n + text_run l.rest ≡ text_run l.bytes) × (l.n + length l.rest ≡ length l.bytes)

abbrev pub decreases-text : goal.decreases-text
decreases-text l = length l.rest
