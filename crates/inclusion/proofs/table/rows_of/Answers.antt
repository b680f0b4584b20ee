use Rattle.std.proofs.Common.{arith}
use Rattle.inclusion.proofs.Rows.{rows_more}
use Rattle.inclusion.proofs.table.rows_of.Goals as goal

pub loop-one-preserved : goal.loop-one-preserved
loop-one-preserved c =
    rows_more c.args.all.now c.loop-one.rows.items c.push.new.self.items c.loop-one.one-index c.one-item.result c.in_ok-row_of.field-0 (omega arith) c.one-item.is c.in_ok-push.ensures.items c.loop-one.invariant c.in_ok-row_of.ensures
