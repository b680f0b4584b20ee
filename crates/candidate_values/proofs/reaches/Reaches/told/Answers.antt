use Rattle.candidate_values.proofs.Kept.{ends_tell, starts_tell}
use Rattle.candidate_values.proofs.reaches.Reaches.told.Goals as goal

pub returns-in-Some : goal.returns-in-Some
returns-in-Some c G goals t kept walk =
    ends_tell G goals t c.args.start.now c.args.end.now (c.args.goal, c.in_ok-value.value) _ _ walk c.in_ok-value.ensures (c.in-Some.ensures G goals kept)
    (rw c.as_slice.ensures.value at c.is_among.ensures)

pub returns-in-Some-find : goal.returns-in-Some-find
returns-in-Some-find c G goals t kept walk =
    starts_tell G goals t c.args.start.now c.args.end.now (c.args.goal, c.in_ok-value-2.value) _ _ walk c.in_ok-value-2.ensures (c.in-Some-find.ensures G goals kept)
    (rw c.as_slice-in-Some-find.ensures.value at c.is_among-in-Some-find.ensures)
