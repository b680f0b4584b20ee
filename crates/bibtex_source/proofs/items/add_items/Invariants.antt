use Rattle.std.proofs.Common.{◌≤◌, length}
use Rattle.bibtex_source.specs.Source.{seen}
use Rattle.bibtex_source.specs.Text.{items_steps}
use Rattle.bibtex_source.proofs.Steps.{IsReached}
use Rattle.bibtex_source.proofs.items.add_items.Given as goal

abbrev pub invariant-items : goal.invariant-items
invariant-items l =
    IsReached (seen l.reading) l.stem l.whole l.fn.graph (items_steps (seen l.reading) l.stem l.fn.macros l.bytes) l.graph l.macros l.rest
    × (length l.rest ≤ length l.bytes)

abbrev pub decreases-items : goal.decreases-items
decreases-items l = length l.rest
