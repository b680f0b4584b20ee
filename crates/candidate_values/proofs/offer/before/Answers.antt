use Rattle.candidate_values.proofs.InGraph.{starts_in_graph}
use Rattle.candidate_values.proofs.offer.before.Goals as goal

pub returns-in_ok-values-in-Edge-clause-in_graph : goal.returns-in_ok-values-in-Edge-clause-in_graph
returns-in_ok-values-in-Edge-clause-in_graph g c = starts_in_graph (g.S.Store.graph c.args.store.now) _ _ _ _ c.in_ok-values-in-Edge.ensures

pub returns-in_ok-ends-in-Compare-clause-lists : goal.returns-in_ok-ends-in-Compare-clause-lists
returns-in_ok-ends-in-Compare-clause-lists g c = rw c.in-Compare.is c.in_ok-ends-in-Compare.ensures.lists
