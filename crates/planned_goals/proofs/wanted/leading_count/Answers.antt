use Rattle.planned_goals.proofs.wanted.leading_count.Goals as goal

pub offers_by_end-requires : goal.offers_by_end-requires
offers_by_end-requires g c = c.requires.in_range _ _ c.in_ok-literal.ensures

pub touches-requires : goal.touches-requires
touches-requires g c = c.requires.in_range _ _ c.in_ok-literal.ensures

pub offered_by-requires : goal.offered_by-requires
offered_by-requires g c = c.requires.in_range _ _ c.in_ok-literal.ensures
