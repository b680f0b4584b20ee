use Rattle.std.proofs.Common.{sym, ap, ◌∙◌, take}
use Rattle.std.specs.Ordering.{is_eq}
use Rattle.std.specs.Cmp.{Equal-is}
use Rattle.query_spec.specs.Rows.{row_cmp-exact}
use Rattle.site_build.proofs.repeats.starts_alike.Goals as goal

pub returns : goal.returns
returns c = λ holds.
    row_cmp-exact (take c.args.width c.args.a.now) (take c.args.width c.args.b.now) ((Equal-is _).0 (sym (c.is_eq.ensures ∙ ap is_eq c.cmp.ensures) ∙ holds))
