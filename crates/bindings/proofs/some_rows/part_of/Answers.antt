use Rattle.std.proofs.Common.{arith}
use Rattle.bindings.proofs.Told.{part-more, part-skip}
use Rattle.bindings.proofs.some_rows.part_of.Goals as goal
use Rattle.bindings.proofs.some_rows.part_of.Goals.{then-wanted-slot+in-Some+in_ok-copy+in_ok-push, else-wanted-slot}

pub loop-slot-preserved : goal.loop-slot-preserved
loop-slot-preserved c =
    elim c.if-wanted-slot.branch [
      | then-wanted-slot+in-Some+in_ok-copy+in_ok-push w ↦
          rw (w.values-is, w.in_ok-push.ensures.items, w.in_ok-copy.ensures)
          (part-more _ _ _ _ _ _ (omega (arith, c.loop-slot-test.true, c.requires)) w.if-wanted-slot.true w.in-Some.ensures c.loop-slot.invariant)
      | else-wanted-slot w ↦
          rw w.values-is
          (part-skip _ _ _ _ _ (omega (arith, c.loop-slot-test.true, c.requires)) w.if-wanted-slot.false c.loop-slot.invariant)
    ]
