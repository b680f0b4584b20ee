use Rattle.std.proofs.Common.{sym, ◌∙◌}
use Rattle.bindings.proofs.Known.{known_part-take_some, known_part-take_none}
use Rattle.bindings.proofs.row.row_of.Goals as goal
use Rattle.bindings.proofs.row.row_of.Goals.{in-Some+in_ok-copy+in_ok-push, in_default}

pub loop-known-preserved : goal.loop-known-preserved
loop-known-preserved c =
    elim c.match-known.branch [
      | in-Some+in_ok-copy+in_ok-push w ↦
          rw (known_part-take_some _ _ _ _ c.loop-known-test.true (sym c.known-item.is ∙ w.in-Some.is)) (cc (w.in_ok-push.ensures.items, w.in_ok-copy.ensures))
      | in_default w ↦
          rw (known_part-take_none _ _ _ c.loop-known-test.true (sym c.known-item.is ∙ w.in_default.is)) (cc)
    ]
