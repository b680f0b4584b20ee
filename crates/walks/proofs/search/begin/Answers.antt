use Rattle.walks.proofs.Explored.{same_pairs}
use Rattle.walks.specs.Search.{LeadsFirst}
use Rattle.walks.proofs.search.begin.Goals as goal

pub returns : goal.returns
returns g c =
    let edges = c.in_ok-steps.ensures in
    let opening = c.opening-reach.ensures in
    let Now = LeadsFirst (g.S.Store.graph c.args.store.now) c.args.automaton.now c.args.direction c.args.start.now in
    same_pairs _ Now
    (λ v q. (λ (l, s, h, r). (l, (edges l v).0 s, (opening q).0 h, r), λ (l, s, h, r). (l, (edges l v).1 s, (opening q).1 h, r)))
    _ _ _ _ c.in_ok-expand.ensures
