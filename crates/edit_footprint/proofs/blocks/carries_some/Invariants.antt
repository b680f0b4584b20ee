use Rattle.std.proofs.Common.{◌≡◌, drop}
use Rattle.std.specs.List.{list_any}
use Rattle.struql_ast.specs.Reading.{label_of}
use Rattle.edit_footprint.specs.Rests.{may_carry}
use Rattle.edit_footprint.proofs.blocks.carries_some.Given as goal

abbrev pub invariant-loop-wanted : goal.invariant-loop-wanted
invariant-loop-wanted l = list_any (may_carry (label_of l.label)) (drop l.wanted-index l.labels) ≡ list_any
    (may_carry (label_of l.label)) l.labels
