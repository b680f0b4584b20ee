use Rattle.candidate_values.proofs.InGraph.{edge_starts_in_graph}
use Rattle.candidate_values.proofs.Offers.{offer_starts}
use Rattle.candidate_values.proofs.offer.offer_starts.Goals as goal

pub settle-requires-clause-in_graph : goal.settle-requires-clause-in_graph
settle-requires-clause-in_graph g c = edge_starts_in_graph (g.S.Store.graph c.args.search.now.store.now) _ _ _ _ c.in_ok-edges_by.ensures c.in_ok-values.ensures

pub returns : goal.returns
returns g c =
    rw c.in-Edge.is
    (offer_starts (g.S.Store.graph c.args.search.now.store.now) c.args.search.now.version _ _ _ _ _ _ _ _ _ _ _ c.in-Some.ensures.0 c.in-Some.ensures.1 c.in_ok-edges_by.ensures c.in_ok-values.ensures c.in_ok-offer.ensures)
