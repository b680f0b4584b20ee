use Rattle.std.proofs.Common.{drop, map}
use Rattle.template_reader.specs.Entries.{entry_of}
use Rattle.template_layouts.specs.Together.{items_of}
use Rattle.template_reader.proofs.Made.{Progress}
use Rattle.template_reader.proofs.templates.entries_of.Given as goal

abbrev pub invariant-loop-items : goal.invariant-loop-items
invariant-loop-items l = Progress (map items_of l.templates) (map items_of (drop l.items-index l.templates)) (map entry_of l.entries.items)
