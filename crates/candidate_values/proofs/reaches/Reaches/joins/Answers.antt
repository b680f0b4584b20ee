use Rattle.candidate_values.proofs.Kept.{reach_of, other_told}
use Rattle.candidate_values.proofs.reaches.Reaches.joins.Goals as goal

pub returns-clause-kept : goal.returns-clause-kept
returns-clause-kept g c =
    let G = g.S.Store.graph c.args.search.now.store.now in
    c.in_ok-keep.ensures G c.args.search.now.goals.now c.requires.kept
    (reach_of G c.args.search.now.goals.now _ (c.args.goal, c.in_ok-origin.origin) c.args.automaton.now _ c.requires.walk (rw (c.in_ok-origin.ensures, c.origin-2.ensures) c.in_ok-direction.ensures))

pub returns-clause-joined : goal.returns-clause-joined
returns-clause-joined g c =
    other_told (g.S.Store.graph c.args.search.now.store.now) c.args.automaton.now _ _ _ _ _ c.in_ok-direction.ensures
    (rw (c.as_slice.ensures.value, c.origin.ensures) at c.is_among-joined.ensures)

pub returns-in-Some-clause-joined : goal.returns-in-Some-clause-joined
returns-in-Some-clause-joined g c =
    (rw c.in-Some.is at c.in_ok-joined.ensures) (g.S.Store.graph c.args.search.now.store.now) c.args.search.now.goals.now c.args.automaton.now c.requires.kept c.requires.walk
