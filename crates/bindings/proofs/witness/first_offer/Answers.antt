use Rattle.bindings.proofs.witness.first_offer.Goals as goal

pub returns-in_ok-offer-in-One : goal.returns-in_ok-offer-in-One
returns-in_ok-offer-in-One g c = rw c.in-One.is c.in_ok-offer-in-One.ensures

pub returns-in_ok-offer-in-Two-2 : goal.returns-in_ok-offer-in-Two-2
returns-in_ok-offer-in-Two-2 g c = rw c.in-Two.is c.in_ok-offer-in-Two-2.ensures
