use Rattle.walks.specs.declared.direction.Direction.TheVariants.{Onward, Backward}
use Rattle.candidate_values.proofs.reaches.Reaches.keep.Goals as goal

pub returns-in_ok-put-in-Onward : goal.returns-in_ok-put-in-Onward
returns-in_ok-put-in-Onward c G goals kept right =
    let room = c.make_room.ensures G goals kept in
    record { onward = c.in_ok-put-in-Onward.ensures G goals Onward room.onward (rw c.in-Onward.is at right); backward = room.backward }

pub returns-in_ok-put-in-Backward : goal.returns-in_ok-put-in-Backward
returns-in_ok-put-in-Backward c G goals kept right =
    let room = c.make_room.ensures G goals kept in
    record { onward = room.onward; backward = c.in_ok-put-in-Backward.ensures G goals Backward room.backward (rw c.in-Backward.is at right) }
