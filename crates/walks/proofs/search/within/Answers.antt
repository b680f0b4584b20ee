use Rattle.std.proofs.Common.{◌≡◌, [], refl}
use Rattle.walks.specs.Search.{Searches}
use Rattle.walks.proofs.Selected.{ends_listed}
use Rattle.walks.proofs.search.within.Goals as goal

pub returns : goal.returns
returns g c =
    let G = g.S.Store.graph c.args.store.now in
    let done : c.loop-exploration.exploration.tasks.items ≡ [] = c.if-not-is_done.ensures.0 refl in
    let searches : Searches G c.args.automaton.now c.args.direction c.args.start.now c.visited-seen.result [] =
    rw c.visited-seen.ensures (rw done at c.loop-exploration.invariant) in
    ends_listed G c.args.automaton.now _ _ _ _ searches c.in_ok-values.ensures
