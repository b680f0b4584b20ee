use Rattle.std.proofs.Common.{◌≡◌, take}
use Rattle.file_list.specs.Lists.{list_text}
use Rattle.file_list.proofs.names.text_of.Given as goal

abbrev pub invariant-loop-name : goal.invariant-loop-name
invariant-loop-name l = l.text.items ≡ list_text (take l.name-index l.names)
