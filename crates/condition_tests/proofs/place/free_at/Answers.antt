use Rattle.condition_tests.proofs.place.free_at.Goals as goal

pub returns-in-Some : goal.returns-in-Some
returns-in-Some c = (c.in-Some.field-0.now, rw c.in-Variable.is c.in-Some.ensures)
