use Rattle.candidate_values.proofs.Kept.{reach_of}
use Rattle.candidate_values.proofs.reaches.Reaches.reach.Goals as goal

pub returns-clause-kept : goal.returns-clause-kept
returns-clause-kept g c =
    let G = g.S.Store.graph c.args.search.now.store.now in
    c.in_ok-keep.ensures G c.args.search.now.goals.now c.requires.kept
    (reach_of G c.args.search.now.goals.now c.args.direction (c.args.goal, c.in_ok-value.value) c.args.automaton.now c.in_ok-values-2.values.items c.requires.walk (rw c.in_ok-value.ensures c.in_ok-values-2.ensures))

pub returns-clause-reach : goal.returns-clause-reach
returns-clause-reach g c = rw (c.in_ok-copied.ensures, c.as_slice.ensures.value) c.in_ok-values-2.ensures

pub returns-in-Some-clause-reach : goal.returns-in-Some-clause-reach
returns-in-Some-clause-reach g c =
    rw c.in_ok-value.ensures at
    ((rw c.in-Some.is at c.in_ok-values.ensures) (g.S.Store.graph c.args.search.now.store.now) c.args.search.now.goals.now c.requires.kept c.args.automaton.now c.requires.walk)
