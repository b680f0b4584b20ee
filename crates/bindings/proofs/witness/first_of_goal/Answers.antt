use Rattle.condition_tests.specs.Meaning.{AtomHolds}
use Rattle.candidate_values.proofs.Kept.{if_some}
use Rattle.bindings.specs.Tries.{AreTried, GoalAt}
use Rattle.bindings.proofs.Tries.{tried_goal}
use Rattle.bindings.proofs.witness.first_of_goal.Goals as goal

pub first_offer-requires-clause-in_range : goal.first_offer-requires-clause-in_range
first_offer-requires-clause-in_range g c = c.requires.in_range _ _ c.in-Some.ensures

pub returns : goal.returns
returns g c =
    let G = g.S.Store.graph c.args.search.now.store.now in
    let asked = c.args.search.now in
    if_some c.in_ok-offer.offer
    (λ o. AreTried G asked.arcs.now (AtomHolds G asked.version c.in-Some.literal.now.atom) c.args.current.now o.slot o.values.items o.settled)
    (λ o. AreTried G asked.arcs.now (GoalAt G asked.version asked.goals.now c.args.goal) c.args.current.now o.slot o.values.items o.settled)
    (λ o a. tried_goal G asked.version asked.arcs.now asked.goals.now _ _ _ _ _ _ c.in-Some.ensures c.if-literal.false a) c.in_ok-offer.ensures
