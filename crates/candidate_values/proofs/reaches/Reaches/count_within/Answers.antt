use Rattle.candidate_values.proofs.Kept.{reach_of}
use Rattle.candidate_values.proofs.reaches.Reaches.count_within.Goals as goal

pub returns : goal.returns
returns g c =
    let G = g.S.Store.graph c.args.search.now.store.now in
    let lists = rw c.in-Some-2.is at c.in_ok-values.ensures in
    c.in_ok-keep.ensures G c.args.search.now.goals.now c.requires.kept
    (reach_of G c.args.search.now.goals.now c.args.direction (c.args.goal, c.in_ok-value.value) c.args.automaton.now _ c.requires.walk (rw c.in_ok-value.ensures lists))
