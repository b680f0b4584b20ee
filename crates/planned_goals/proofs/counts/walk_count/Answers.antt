use Rattle.planned_goals.proofs.counts.walk_count.Goals as goal

pub known-requires : goal.known-requires
known-requires g c = (rw c.in-Two-default-Walk-default.is at (c.requires.in_range _ _ c.in-Some.ensures)).0

pub known-requires-2 : goal.known-requires-2
known-requires-2 g c = (rw c.in-Two-default-Walk-default.is at (c.requires.in_range _ _ c.in-Some.ensures)).1
