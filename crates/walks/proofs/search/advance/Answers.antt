use Rattle.walks.proofs.Searched.{advances}
use Rattle.walks.proofs.search.advance.Goals as goal

pub returns : goal.returns
returns g c =
    advances (g.S.Store.graph c.args.store.now) c.args.automaton.now c.args.direction c.args.exploration.now _ c.in-Some.task c.pop.new.self.items
    c.in-Some.ensures.items c.in_ok-looked.ensures
