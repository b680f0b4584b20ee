use Rattle.std.proofs.Common.{◌≤◌, length}
use Rattle.bibtex_source.specs.Source.{fields_at, entries_by}
use Rattle.bibtex_source.specs.Text.{entries_in}
use Rattle.bibtex_source.proofs.Noted.{IsNoted}
use Rattle.bibtex_source.proofs.entries.entries_of.Given as goal

abbrev pub invariant-items : goal.invariant-items
invariant-items l = IsNoted (fields_at (entries_in l.fn.macros l.bytes)) (entries_by l.parents) l.macros l.rest

abbrev pub decreases-items : goal.decreases-items
decreases-items l = length l.rest
