use Rattle.std.proofs.Common.{[]}
use Rattle.walks.specs.Search.{Explores, LeadsFirst}
use Rattle.walks.proofs.Searched.{search_begins}
use Rattle.walks.proofs.search.set_out.Goals as goal

pub returns : goal.returns
returns g c =
    let s = c.in_ok-seen.ensures in
    let G = g.S.Store.graph c.args.store.now in
    let e : Explores (LeadsFirst G c.args.automaton.now c.args.direction c.args.start.now) c.in_ok-seen.seen c.begin.new.seen [] c.begin.new.tasks.items =
    rw c.new-tasks.ensures.items at c.in_ok-looked.ensures in
    search_begins G c.args.automaton.now c.args.direction c.args.start.now c.in_ok-seen.seen c.begin.new.seen c.begin.new.tasks.items s.none s.start e
