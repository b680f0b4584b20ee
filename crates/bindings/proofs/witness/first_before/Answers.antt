use Rattle.store.specs.First.{first-sound}
use Rattle.candidate_values.proofs.InGraph.{edge_start}
use Rattle.bindings.proofs.Tries.{tried_before}
use Rattle.bindings.proofs.witness.first_before.Goals as goal

pub settle-requires-clause-in_graph : goal.settle-requires-clause-in_graph
settle-requires-clause-in_graph g c told wf v at = edge_start (g.S.Store.graph c.args.search.now.store.now) v _ _ (first-sound 1 _ c.in_ok-values.ensures v at) wf

pub returns : goal.returns
returns g c =
    rw c.in-Edge.is
    (tried_before (g.S.Store.graph c.args.search.now.store.now) c.args.search.now.version c.args.search.now.arcs.now c.args.search.now.goals.now _ _ _ _ _ _ _ _ _ _ _ c.in-Some.ensures c.in-Some-free_at.ensures.0 c.in-Some-free_at.ensures.1
    (first-sound 1 _ c.in_ok-values.ensures) c.in_ok-offer.ensures)
