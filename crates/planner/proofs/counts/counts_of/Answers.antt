use Rattle.planner.proofs.Counting.{counts_right}
use Rattle.planner.proofs.counts.counts_of.Goals as goal

pub returns : goal.returns
returns g c =
    counts_right (g.S.Store.graph c.args.store.now) c.args.chain.now _ c.sizes.ensures.nodes c.sizes.ensures.edges c.sizes.ensures.values c.sizes.ensures.labels
    (rw c.conditions.ensures at c.in_ok-labels.ensures) (rw c.conditions-2.ensures at c.in_ok-collections.ensures)
