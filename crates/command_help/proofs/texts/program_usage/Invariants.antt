use Rattle.std.proofs.Common.{◌≡◌, ◌++◌, take}
use Rattle.std.specs.List.{flat_map}
use Rattle.command_spec.specs.Rows.{row}
use Rattle.command_help.specs.Texts.{program_head}
use Rattle.command_help.proofs.texts.program_usage.Given as goal

abbrev pub invariant-loop-name : goal.invariant-loop-name
invariant-loop-name l =
    l.text.items ≡ program_head ++ flat_map (λ name. (row name).summary) (take l.name-index l.name-items)
