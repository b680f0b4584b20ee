use Rattle.std.proofs.Common.{◌≡◌, ◌+◌, length}
use Rattle.std.specs.Option.{option_map}
use Rattle.template_items.specs.Scanning.{note_run}
use Rattle.template_items.proofs.scanning.note_run.Given as goal

abbrev pub invariant-note : goal.invariant-note
invariant-note l = (option_map (λ m. m + l.n) (note_run l.rest) ≡ note_run l.bytes) × (l.n + length l.rest ≡ length l.bytes)

abbrev pub decreases-note : goal.decreases-note
decreases-note l = length l.rest
