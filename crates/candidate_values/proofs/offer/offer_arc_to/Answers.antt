use Rattle.candidate_values.proofs.Offers.{offer_label_to, offer_start}
use Rattle.candidate_values.proofs.offer.offer_arc_to.Goals as goal

pub returns-in_default-value_of : goal.returns-in_default-value_of
returns-in_default-value_of g c =
    offer_label_to (g.S.Store.graph c.args.search.now.store.now) c.args.search.now.version _ _ _ _ _ _ _ _ _ _ _ c.in-Some.ensures c.in_default-value_of.ensures c.in_ok-incoming.ensures c.in_ok-values.ensures c.in_ok-offer.ensures

pub returns : goal.returns
returns g c =
    offer_start (g.S.Store.graph c.args.search.now.store.now) c.args.search.now.version _ _ _ _ _ _ _ _ _ _ _ _ _ c.in-Some.ensures c.in-Some-value_of.ensures c.in-Some-free_at.ensures.0 c.in-Some-free_at.ensures.1 c.in_ok-ends.ensures.lists c.in_ok-offer-2.ensures
