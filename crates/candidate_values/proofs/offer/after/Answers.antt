use Rattle.candidate_values.proofs.InGraph.{ends_in_graph}
use Rattle.candidate_values.proofs.offer.after.Goals as goal

pub returns-in_ok-values-in-Edge-clause-in_graph : goal.returns-in_ok-values-in-Edge-clause-in_graph
returns-in_ok-values-in-Edge-clause-in_graph g c = ends_in_graph (g.S.Store.graph c.args.store.now) _ _ _ _ c.in_ok-values-in-Edge.ensures
