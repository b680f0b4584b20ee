use Rattle.walks.proofs.Selected.{ends_listed}
use Rattle.walks.proofs.search.race.Goals as goal

pub returns : goal.returns
returns g c = ends_listed (g.S.Store.graph c.args.store.now) c.args.automaton.now _ _ _ _ c.in_ok-direction.ensures (rw c.origin-origin.ensures at c.in_ok-values.ensures)
