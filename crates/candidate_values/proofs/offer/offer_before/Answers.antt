use Rattle.candidate_values.proofs.Offers.{offer_before}
use Rattle.candidate_values.proofs.offer.offer_before.Goals as goal

pub returns : goal.returns
returns g c =
    let lists = rw c.in-Some-2.is at c.in_ok-ends.ensures.lists in
    offer_before (g.S.Store.graph c.args.search.now.store.now) c.args.search.now.version _ _ _ _ _ _ _ _ _ _ _ _ c.in-Some.ensures c.in-Some-free_at.ensures.0 c.in-Some-free_at.ensures.1 lists c.in_ok-offer.ensures
