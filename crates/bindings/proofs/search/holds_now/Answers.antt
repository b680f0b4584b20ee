use Rattle.condition_tests.specs.declared.literal.Relation.TheVariants.{Walk}
use Rattle.condition_tests.proofs.Decided.{decides_two}
use Rattle.candidate_values.proofs.Kept.{walk_there}
use Rattle.bindings.proofs.search.holds_now.Goals as goal

pub joins-requires-clause-walk : goal.joins-requires-clause-walk
joins-requires-clause-walk g c = walk_there c.args.search.now.goals.now c.args.at c.args.literal.now _ _ _ c.requires.there c.in-Some.ensures

pub returns-in-Some-Some-clause-decides : goal.returns-in-Some-Some-clause-decides
returns-in-Some-Some-clause-decides g c =
    rw c.in-Some.ensures
    (decides_two (g.S.Store.graph c.args.search.now.store.now) c.args.search.now.version _ (Walk c.in-Some.walk.automaton.now) _ _ _ _ _ c.in-Some-Some.ensures c.in-Some-Some.ensures' c.in_ok-joined.ensures.joined)
