use Rattle.std.proofs.Common.{◌+◌, arith}
use Rattle.schema.proofs.RowLists.{row_more}
use Rattle.schema.proofs.edges.push_links.Goals as goal

pub loop-link-preserved : goal.loop-link-preserved
loop-link-preserved c =
    row_more c.args.links.now c.loop-link.link-index c.link-item.result c.args.edges.now.items c.loop-link.edges.items c.push.new.self.items c.in_ok-edge_of.field-0 (c.len-number.result + 1) c.args.path.now c.args.conditions.now (omega arith) c.link-item.is c.loop-link.invariant
    (omega (arith, c.len-number.ensures, c.loop-link.edges.ok.0)) c.in_ok-edge_of.ensures c.in_ok-push.ensures.items
