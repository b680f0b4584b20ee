use Rattle.candidate_values.proofs.InGraph.{ends_in_graph}
use Rattle.candidate_values.proofs.offer.arc_ends.Goals as goal

pub returns-in_ok-values-in-Data-Text-clause-in_graph : goal.returns-in_ok-values-in-Data-Text-clause-in_graph
returns-in_ok-values-in-Data-Text-clause-in_graph g c = ends_in_graph (g.S.Store.graph c.args.store.now) _ _ _ _ c.in_ok-values-in-Data-Text.ensures
