use Rattle.candidate_values.proofs.Offers.{offer_one}
use Rattle.candidate_values.proofs.offer.offer_one.Goals as goal

pub returns : goal.returns
returns g c =
    let lists = rw c.in-Some-2.is at c.in_ok-ends.ensures.lists in
    offer_one (g.S.Store.graph c.args.search.now.store.now) c.args.search.now.version _ _ _ _ _ _ _ _ _ _ c.in-Some.ensures.0 c.in-Some.ensures.1 lists c.in_ok-offer-3.ensures
