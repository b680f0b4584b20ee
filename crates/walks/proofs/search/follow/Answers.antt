use Rattle.walks.proofs.Explored.{same_pairs}
use Rattle.walks.specs.Search.{Leads}
use Rattle.walks.proofs.search.follow.Goals as goal

pub returns : goal.returns
returns g c =
    let edges = c.in_ok-steps.ensures in
    let next = c.next-reach.ensures in
    let Now = Leads (g.S.Store.graph c.args.store.now) c.args.automaton.now c.args.direction c.args.task.now in
    same_pairs _ Now
    (λ v q. (λ (l, s, h, r). (l, (edges l v).0 s, (next q).0 h, r), λ (l, s, h, r). (l, (edges l v).1 s, (next q).1 h, r)))
    _ _ _ _ c.in_ok-expand.ensures
