use Rattle.bindings.proofs.some_rows.choose_wanted.Goals as goal
use Rattle.bindings.proofs.some_rows.choose_wanted.Goals.{then-at-search+in-Some+in_ok-choice+else-is_some+in-Some-1, then-at-search+in-Some+in_ok-choice+else-is_some+in-None-1, then-at-search+in_default, else-at-search}

pub choose-requires-clause-kept : goal.choose-requires-clause-kept
choose-requires-clause-kept g c =
    elim c.if-at-search.branch [
      | then-at-search+in-Some+in_ok-choice+else-is_some+in-Some-1 w ↦ rw w.kept-is w.in_ok-choice.ensures.kept
      | then-at-search+in-Some+in_ok-choice+else-is_some+in-None-1 w ↦ rw w.kept-is w.in_ok-choice.ensures.kept
      | then-at-search+in_default w ↦ rw w.kept-is c.requires.kept
      | else-at-search w ↦ rw w.kept-is c.requires.kept
    ]
