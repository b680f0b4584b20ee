use Rattle.std.proofs.Common.{arith}
use Rattle.inclusion.proofs.Rows.{row_more}
use Rattle.inclusion.proofs.table.row_of.Goals as goal

pub loop-other-preserved : goal.loop-other-preserved
loop-other-preserved c =
    row_more c.args.all.now c.args.one.now c.loop-other.row.items c.push.new.self.items c.loop-other.other-index c.other-item.result c.in_ok-is_included.field-0 (omega arith) c.other-item.is c.in_ok-push.ensures.items c.loop-other.invariant c.in_ok-is_included.ensures
