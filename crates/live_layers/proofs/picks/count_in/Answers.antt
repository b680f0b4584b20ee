use Rattle.std.proofs.Common.{arith}
use Rattle.live_layers.proofs.PickLaws.{fits}
use Rattle.live_layers.proofs.picks.count_in.Goals as goal

pub overflow_add-number : goal.overflow_add-number
overflow_add-number g c =
    let most = fits (g.Q.Query.at c.args.query.now) c.args.items.now.keys in
    omega (arith, most, c.loop-item.invariant, c.iter-item-items.ensures.fits)
