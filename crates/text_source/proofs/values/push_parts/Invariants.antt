use Rattle.std.proofs.Common.{◌≡◌, ◌++◌, length, false}
use Rattle.std.specs.List.{flat_map}
use Rattle.text_source.specs.Values.{one_value, parts_from}
use Rattle.text_source.proofs.Parts.{after_part}
use Rattle.text_source.proofs.values.push_parts.Given as goal

abbrev pub invariant-bytes : goal.invariant-bytes
invariant-bytes l =
    l.values.items ++ flat_map one_value (after_part l.part.items (parts_from l.quoting l.rest))
    ≡ l.initial.values.items ++ flat_map one_value (parts_from false l.list)

abbrev pub decreases-bytes : goal.decreases-bytes
decreases-bytes l = length l.rest
