use Rattle.candidate_values.proofs.InGraph.{members_in_graph}
use Rattle.candidate_values.proofs.Offers.{listed_by}
use Rattle.candidate_values.proofs.offer.property_values.Goals as goal

pub returns-in_ok-values-in-Member-clause-in_graph : goal.returns-in_ok-values-in-Member-clause-in_graph
returns-in_ok-values-in-Member-clause-in_graph g c = members_in_graph (g.S.Store.graph c.args.store.now) _ _ _ c.in_ok-values-in-Member.ensures

pub returns-in_ok-values-in-OneOf-clause-lists : goal.returns-in_ok-values-in-OneOf-clause-lists
returns-in_ok-values-in-OneOf-clause-lists g c = rw c.in-OneOf.is (listed_by _ _ c.in_ok-values-in-OneOf.ensures)
