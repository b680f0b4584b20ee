use Rattle.std.proofs.Common.{sym, subst, take}
use Rattle.sd_ddl.specs.Tables.{HasGivers}
use Rattle.sd_ddl.proofs.Conflicts.{next_part}
use Rattle.sd_ddl.proofs.kinds.givers_of.Goals as goal

pub loop-part-preserved : goal.loop-part-preserved
loop-part-preserved c =
    let front = sym (next_part c.args.parts.now c.loop-part.part-index c.part-item.result c.loop-part-test.true c.part-item.is).1 in
    subst (λ ps. HasGivers ps c.add_giver.new.self) front (c.in_ok-add_giver.ensures (take c.loop-part.part-index c.args.parts.now) c.loop-part.invariant)
