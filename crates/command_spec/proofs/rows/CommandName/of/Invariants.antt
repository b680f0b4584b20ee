use Rattle.std.proofs.Common.{◌≡◌, drop}
use Rattle.std.specs.Prelude.{find}
use Rattle.std.specs.Str.{bytes_eq}
use Rattle.command_spec.specs.Rows as specs
use Rattle.command_spec.proofs.rows.CommandName.of.Given as goal

abbrev pub invariant-loop-name : goal.invariant-loop-name
invariant-loop-name l =
    specs.name_of l.word
    ≡ find (λ name. bytes_eq (specs.row name).name l.word) (drop l.name-index l.name-items)
