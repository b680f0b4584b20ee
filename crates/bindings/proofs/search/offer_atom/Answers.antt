use Rattle.candidate_values.proofs.Kept.{walk_there}
use Rattle.bindings.proofs.search.offer_atom.Goals as goal

pub offer_walk-requires-clause-from_in_range : goal.offer_walk-requires-clause-from_in_range
offer_walk-requires-clause-from_in_range g c = (rw c.in-Some.ensures at c.requires.in_range).0

pub offer_walk-requires-clause-to_in_range : goal.offer_walk-requires-clause-to_in_range
offer_walk-requires-clause-to_in_range g c = (rw c.in-Some.ensures at c.requires.in_range).1

pub offer_walk-requires-clause-walk : goal.offer_walk-requires-clause-walk
offer_walk-requires-clause-walk g c = walk_there c.args.search.now.goals.now c.args.at c.args.literal.now _ _ _ c.requires.there c.in-Some.ensures

pub returns-clause-offer : goal.returns-clause-offer
returns-clause-offer g c = rw c.in-Some.ensures c.in_ok-offer-2.ensures.offer
