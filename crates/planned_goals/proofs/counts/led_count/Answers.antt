use Rattle.planned_goals.proofs.counts.led_count.Goals as goal

pub is_led-requires : goal.is_led-requires
is_led-requires g c = c.requires.in_range _ _ c.in_ok-literal.ensures

pub free_slot-requires : goal.free_slot-requires
free_slot-requires g c = c.requires.in_range _ _ c.in_ok-literal.ensures

pub offered_by-requires : goal.offered_by-requires
offered_by-requires g c = c.requires.in_range _ _ c.in_ok-literal.ensures
