use Rattle.candidate_values.proofs.reaches.Reaches.recalled.Goals as goal

pub returns-in_ok-values-in-Some : goal.returns-in_ok-values-in-Some
returns-in_ok-values-in-Some c G goals kept = rw (c.in_ok-values-in-Some.ensures, c.as_slice.ensures.value) (c.in-Some.ensures G goals kept)
