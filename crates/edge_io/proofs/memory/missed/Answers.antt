use Rattle.edge_io.proofs.Times.{counted_later, counted_rose}
use Rattle.edge_io.proofs.memory.missed.Goals as goal

pub returns-in-Ok-clause-later : goal.returns-in-Ok-clause-later
returns-in-Ok-clause-later c = counted_later _ _ _ c.in-Ok.ensures.ok

pub returns-in-Ok-clause-rose : goal.returns-in-Ok-clause-rose
returns-in-Ok-clause-rose c = λ _. counted_rose _ _ _ c.in-Ok.ensures.ok
