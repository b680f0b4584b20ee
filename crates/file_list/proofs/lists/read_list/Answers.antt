use Rattle.std.proofs.Common.{◌∙◌, ap}
use Rattle.file_list.specs.Lists.{listed, listed_at}
use Rattle.file_list.proofs.Lines.{read_names}
use Rattle.file_list.proofs.lists.read_list.Goals as goal

pub returns-in-Ok-names_of-clause-names : goal.returns-in-Ok-names_of-clause-names
returns-in-Ok-names_of-clause-names g c = λ map told.
    c.in-Ok-names_of.ensures ∙ ap listed c.deref.ensures.value ∙ read_names (map c.in-Ok.path) c.in_ok-text.text.items (c.in_ok-text.ensures.bytes map told)
    ∙ ap (λ p. listed_at (map p)) c.in-Ok.ensures
