use Rattle.planned_goals.proofs.counts.fewest.Goals as goal

pub free_slot-requires : goal.free_slot-requires
free_slot-requires g c = c.requires.in_range _ _ c.in-Some.ensures

pub offered_by-count-requires : goal.offered_by-count-requires
offered_by-count-requires g c = c.requires.in_range _ _ c.in-Some.ensures
