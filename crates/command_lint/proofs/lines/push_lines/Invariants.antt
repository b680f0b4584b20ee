use Rattle.std.proofs.Common.{◌≡◌, ◌++◌, take}
use Rattle.std.specs.List.{flat_map}
use Rattle.command_lint.specs.Lines.{finding_line}
use Rattle.command_lint.proofs.lines.push_lines.Given as goal

abbrev pub invariant-loop-finding : goal.invariant-loop-finding
invariant-loop-finding l = l.text.items ≡ l.initial.text.items ++ flat_map (finding_line l.path) (take l.finding-index l.findings)
