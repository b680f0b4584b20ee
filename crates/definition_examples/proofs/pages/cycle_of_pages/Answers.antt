use Rattle.definition_examples.proofs.Cycle.{cyclic_at_q, not_at_p}
use Rattle.definition_examples.proofs.pages.cycle_of_pages.Goals as goal

pub returns : goal.returns
returns c = record { repeated = cyclic_at_q; asked = not_at_p }
