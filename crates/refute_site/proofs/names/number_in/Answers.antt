use Rattle.std.proofs.Common.{arith, sym, ap, ◌∙◌, ◌+◌, w64}
use Rattle.std.specs.Prelude.{true, false, pos}
use Rattle.std.proofs.lemmas.Int.{to_z_pos}
use Rattle.refute_site.proofs.CopyNames.{number_by}
use Rattle.refute_site.proofs.names.number_in.Goals as goal

pub returns-then-is_among : goal.returns-then-is_among
returns-then-is_among c =
    to_z_pos w64 c.args.number (omega (arith, c.requires))
    ∙ ap pos (sym (number_by c.args.copy c.in-Second.shared c.args.name.now c.is_among.result true c.in-Second.is c.is_among.ensures c.if-is_among.true c.args.number))

pub returns-else-is_among : goal.returns-else-is_among
returns-else-is_among c =
    to_z_pos w64 (c.args.number + 32) (omega (arith, c.requires))
    ∙ ap pos (sym (number_by c.args.copy c.in-Second.shared c.args.name.now c.is_among.result false c.in-Second.is c.is_among.ensures c.if-is_among.false c.args.number))
