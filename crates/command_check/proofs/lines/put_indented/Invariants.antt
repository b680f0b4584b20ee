use Rattle.std.proofs.Common.{◌≡◌, ◌++◌, drop}
use Rattle.std.specs.Prelude.{true}
use Rattle.command_check.specs.Told.{indented}
use Rattle.command_check.proofs.lines.put_indented.Given as goal

abbrev pub invariant-loop-byte : goal.invariant-loop-byte
invariant-loop-byte l =
    l.out.items ++ indented l.begins (drop l.byte-index l.text) ≡ l.initial.out.items ++ indented true l.text
