use Rattle.store.specs.First.{first-sound}
use Rattle.candidate_values.proofs.InGraph.{member_value}
use Rattle.bindings.proofs.Tries.{tried_member}
use Rattle.bindings.proofs.witness.first_member.Goals as goal

pub settle-requires-clause-in_graph : goal.settle-requires-clause-in_graph
settle-requires-clause-in_graph g c told wf v at = member_value (g.S.Store.graph c.args.search.now.store.now) _ v (first-sound 1 _ c.in_ok-values.ensures v at) wf

pub returns : goal.returns
returns g c =
    rw c.in-Member.is
    (tried_member (g.S.Store.graph c.args.search.now.store.now) c.args.search.now.version c.args.search.now.arcs.now c.args.search.now.goals.now _ _ _ _ _ _ _ _ _ c.in-Some.ensures.0 c.in-Some.ensures.1
    (first-sound 1 _ c.in_ok-values.ensures) c.in_ok-offer.ensures)
