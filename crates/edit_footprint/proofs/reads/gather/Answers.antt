use Rattle.edit_footprint.proofs.Gathering.{adds_more}
use Rattle.edit_footprint.proofs.reads.gather.Goals as goal

pub loop-x-preserved : goal.loop-x-preserved
loop-x-preserved c =
    adds_more c.args.uses.now c.loop-x.x-index c.x-item.result c.args.reads.now c.loop-x.reads
    c.add_use.new.reads c.loop-x-test.true c.x-item.is c.loop-x.invariant c.in_ok-add_use.ensures
