use Rattle.byte_queue.proofs.Appending.{more_taken, none_taken}
use Rattle.byte_queue.proofs.writing.write_ready.Goals as goal
use Rattle.byte_queue.proofs.writing.write_ready.Goals.{in-Ok, in-Err}

pub loop-preserved : goal.loop-preserved
loop-preserved g c =
    elim c.match-write.branch [
      | in-Ok w ↦
          more_taken _ _ _ c.args.bytes.now c.loop.taken w.in-Ok.count _ w.taken-is c.loop.invariant.0
          w.in-Ok.ensures.bound c.loop.invariant.1 w.in-Ok.ensures.bytes
      | in-Err w ↦
          none_taken _ _ _ c.args.bytes.now c.loop.taken _ w.taken-is c.loop.invariant.0
          c.loop.invariant.1 w.in-Err.ensures.bytes
    ]
