use Rattle.std.proofs.Common.{sym, ap, ◌∙◌}
use Rattle.sd_ddl.specs.Tables.{is_several, told_of, has_two_kinds, is_conflict}
use Rattle.sd_ddl.proofs.kinds.Kinds.conflicts.Goals as goal

pub returns-in_ok-told-in-Plain : goal.returns-in_ok-told-in-Plain
returns-in_ok-told-in-Plain c =
    c.is_several-in-Plain.ensures
    ∙ (ap is_several c.in_ok-told-in-Plain.ensures
    ∙ (ap (has_two_kinds (told_of c.args.self.now c.in-Edge.object c.in-Edge.attribute)) (sym c.in-Plain.is) ∙ ap (is_conflict c.args.seen.now c.args.self.now) (sym c.in-Edge.is)))
