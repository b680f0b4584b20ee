use Rattle.std.proofs.Common.{◌≡◌, [], drop}
use Rattle.template_reader.specs.Faults.{open_tags}
use Rattle.template_reader.proofs.titles.open_tags.Given as goal

abbrev pub invariant-loop-item : goal.invariant-loop-item
invariant-loop-item l = open_tags l.open_at.items (drop l.item-index l.items) ≡ open_tags [] l.items
