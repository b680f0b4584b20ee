use Rattle.std.proofs.Common.{◌≡◌, length, map}
use Rattle.grammar.specs.Reading.{repeat, with_front}
use Rattle.template_items.specs.declared.item.Mark.TheVariants as marks
use Rattle.template_tags.specs.Terminals.{is_mark}
use Rattle.template_reader.specs.Entries.{entry_of}
use Rattle.template_reader.specs.Reading.{read_template}
use Rattle.template_reader.proofs.file.templates_at.Given as goal

abbrev pub invariant-list : goal.invariant-list
invariant-list l = with_front (map entry_of l.entries.items) (repeat (is_mark marks.OpenTemplate) read_template l.rest) ≡ repeat (is_mark marks.OpenTemplate) read_template l.items

abbrev pub decreases-list : goal.decreases-list
decreases-list l = length l.rest
