use Rattle.store.specs.First.{first-sound}
use Rattle.candidate_values.proofs.InGraph.{edge_end}
use Rattle.bindings.proofs.Tries.{tried_after}
use Rattle.bindings.proofs.witness.first_after.Goals as goal

pub settle-requires-clause-in_graph : goal.settle-requires-clause-in_graph
settle-requires-clause-in_graph g c told wf v at = edge_end (g.S.Store.graph c.args.search.now.store.now) _ _ v (first-sound 1 _ c.in_ok-values.ensures v at) wf

pub returns : goal.returns
returns g c =
    rw c.in-Edge.is
    (tried_after (g.S.Store.graph c.args.search.now.store.now) c.args.search.now.version c.args.search.now.arcs.now c.args.search.now.goals.now _ _ _ _ _ _ _ _ _ _ _ c.in-Some.ensures c.in-Some-free_at.ensures.0 c.in-Some-free_at.ensures.1
    (first-sound 1 _ c.in_ok-values.ensures) c.in_ok-offer.ensures)
