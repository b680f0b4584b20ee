use Rattle.sd_value.specs.Order.{bytes_cmp}
use Rattle.sd_ddl.specs.Groups.{node_is}
use Rattle.sd_ddl.proofs.Counted.{alike, counted_more}
use Rattle.sd_ddl.proofs.groups.members_at.Goals as goal

pub loop-i-preserved : goal.loop-i-preserved
loop-i-preserved c =
    counted_more (node_is c.args.node.now) c.args.members.now c.loop-i.i c.index-members-i.result c.loop-i.invariant c.loop-i-test.true c.index-members-i.is
    (alike c.cmp.result (bytes_cmp c.index-members-i.result.now.node c.args.node.now) c.is_ne.result c.cmp.ensures c.is_ne.ensures c.if-is_ne.false)
