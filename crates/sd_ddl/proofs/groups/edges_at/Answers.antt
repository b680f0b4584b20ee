use Rattle.sd_value.specs.Order.{bytes_cmp}
use Rattle.sd_ddl.specs.Groups.{start_is}
use Rattle.sd_ddl.proofs.Counted.{alike, counted_more}
use Rattle.sd_ddl.proofs.groups.edges_at.Goals as goal

pub loop-i-preserved : goal.loop-i-preserved
loop-i-preserved c =
    counted_more (start_is c.args.node.now) c.args.edges.now c.loop-i.i c.index-edges-i.result c.loop-i.invariant c.loop-i-test.true c.index-edges-i.is
    (alike c.cmp.result (bytes_cmp c.index-edges-i.result.from c.args.node.now) c.is_ne.result c.cmp.ensures c.is_ne.ensures c.if-is_ne.false)
