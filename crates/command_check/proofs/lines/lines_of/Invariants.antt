use Rattle.std.proofs.Common.{◌≡◌, take}
use Rattle.std.specs.Prelude.{map}
use Rattle.command_check.specs.Told.{finding_lines}
use Rattle.command_check.specs.Written.{found_in}
use Rattle.command_check.proofs.lines.lines_of.Given as goal

abbrev pub invariant-loop-i : goal.invariant-loop-i
invariant-loop-i l = l.text.items ≡ finding_lines l.query 1 (take l.i l.constraints) (map found_in (take l.i l.findings))
