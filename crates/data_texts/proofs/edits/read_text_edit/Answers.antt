use Rattle.std.proofs.Common.{◌≡◌, sym, subst}
use Rattle.std.specs.Prelude.{Option}
use Rattle.query_spec.specs.Query as plain
use Rattle.data_texts.specs.Edits.{edit_under}
use Rattle.data_texts.proofs.TheEdits.{one_spelled}
use Rattle.data_texts.proofs.edits.read_text_edit.Goals as goal

pub returns-in_ok-edit-in-None : goal.returns-in_ok-edit-in-None
returns-in_ok-edit-in-None c = λ reader.
    subst (λ (o : Option plain.Query). c.in_ok-edit-in-None.edit ≡ edit_under reader o c.args.text.now) (sym c.in-None.is)
    (one_spelled c.args.text.now c.in_ok-edit-in-None.edit (reader.edit_in c.args.text.now) c.in_ok-edit-in-None.ensures
    (reader.spells c.args.text.now))
