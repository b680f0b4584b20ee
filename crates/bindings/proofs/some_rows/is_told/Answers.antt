use Rattle.std.proofs.Common.{◌∙◌}
use Rattle.bindings.proofs.Told.{same_values}
use Rattle.bindings.proofs.some_rows.is_told.Goals as goal

pub returns-then-eq : goal.returns-then-eq
returns-then-eq c tied wanted told =
    let says = c.eq.ensures in
    let w = told.first c.in-Some.first c.in-Some.is in
    (w.0, w.1, w.2 ∙ same_values c.in-Some.first c.args.part.now cc)
