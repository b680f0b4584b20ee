use Rattle.walks.proofs.direction.Direction.next.Goals as goal

pub returns-in-Backward : goal.returns-in-Backward
returns-in-Backward c = rw c.in-Backward.is c.before-earlier.ensures
