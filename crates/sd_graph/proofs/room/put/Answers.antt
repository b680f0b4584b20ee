use Rattle.std.proofs.Common.{arith}
use Rattle.sd_graph.specs.Inserted.{length-inserted_most}
use Rattle.sd_graph.specs.Gathered.{elements}
use Rattle.sd_graph.proofs.room.put.Goals as goal

pub returns-then-nodes-limits-clause-fits : goal.returns-then-nodes-limits-clause-fits
returns-then-nodes-limits-clause-fits g c =
    let most = length-inserted_most g.K.Ord.cmp c.args.key (elements g.K.Ord.cmp c.args.set.now) in
    let room = c.is_below-has_room.ensures.below c.if-has_room.true in
    (c.if-nodes-limits.true, omega (arith, most, room))
