use Rattle.walks.proofs.Selected.{other_is_joined}
use Rattle.walks.proofs.search.joins.Goals as goal

pub returns : goal.returns
returns g c =
    other_is_joined (g.S.Store.graph c.args.store.now) c.args.automaton.now _ _ _ _ _ c.in_ok-direction.ensures
    (rw (c.origin-origin.ensures, c.origin-other.ensures) at c.has_end.ensures)
