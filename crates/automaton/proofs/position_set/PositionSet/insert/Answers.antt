use Rattle.automaton.proofs.Sets.{has_set}
use Rattle.automaton.proofs.position_set.PositionSet.insert.Goals as goal

pub returns : goal.returns
returns c = rw (← c.self.view_is) (has_set _ c.args.p c.self.invariant c.requires)
