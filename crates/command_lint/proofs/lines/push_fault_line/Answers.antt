use Rattle.std.proofs.Common.{refl}
use Rattle.std.specs.Prelude.{codes}
use Rattle.std.specs.Fmt.{decimal}
use Rattle.command_lint.specs.Lines.{name_of as name_by}
use Rattle.command_lint.proofs.Pieces.{eight_pieces}
use Rattle.command_lint.proofs.lines.push_fault_line.Goals as goal

pub returns : goal.returns
returns c =
    let f = c.args.finding.now in
    eight_pieces c.args.text.now.items _ _ _ _ _ _ _ c.extend_from_slice-6.new.self.items _ _ _ _ _ _ _ _
    c.args.path.now (codes ": ") (decimal f.number) (codes " ") (name_by f.number) (codes " at ") (decimal f.at) (codes "\n")
    c.in_ok-extend_from_slice.ensures.items c.bytes.ensures
    c.in_ok-extend_from_slice-2.ensures.items refl
    c.in_ok-put_number.ensures refl
    c.in_ok-extend_from_slice-3.ensures.items refl
    c.in_ok-extend_from_slice-4.ensures.items c.name_of.ensures
    c.in_ok-extend_from_slice-5.ensures.items refl
    c.in_ok-put_number-2.ensures refl
    c.in_ok-extend_from_slice-6.ensures.items refl
