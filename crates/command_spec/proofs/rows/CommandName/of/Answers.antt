use Rattle.std.proofs.Common.{◌∙◌, sym, ap, rules}
use Rattle.std.specs.Str.{bytes_eq}
use Rattle.command_spec.specs.Rows.{Row, row}
use Rattle.command_spec.proofs.Lookup.{find_next}
use Rattle.command_spec.proofs.rows.CommandName.of.Goals as goal

pub loop-name-preserved : goal.loop-name-preserved
loop-name-preserved c =
    c.loop-name.invariant
    ∙ find_next (λ name. bytes_eq (row name).name c.args.word.now) _ c.loop-name.name-index _ c.loop-name-test.true (search rules)
    (ap (λ (r : Row). bytes_eq r.name c.args.word.now) (sym c.row.ensures) ∙ sym c.eq.ensures ∙ c.if-eq.false)
