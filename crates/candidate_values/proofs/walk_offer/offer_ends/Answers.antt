use Rattle.candidate_values.proofs.Kept.{listed_ends}
use Rattle.candidate_values.proofs.Offers.{offer_after}
use Rattle.candidate_values.proofs.walk_offer.offer_ends.Goals as goal

pub returns-clause-offer : goal.returns-clause-offer
returns-clause-offer g c =
    let G = g.S.Store.graph c.args.search.now.store.now in
    let lists = listed_ends G c.args.search.now.version c.args.automaton.now _ _ c.in_ok-values.ensures.reach in
    offer_after G c.args.search.now.version _ _ _ _ _ _ _ _ _ _ _ _ c.in-Some.ensures c.in-Some-free_at.ensures.0 c.in-Some-free_at.ensures.1 lists c.in_ok-offer.ensures
