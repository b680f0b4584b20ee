use Rattle.std.proofs.Common.{Ok}
use Rattle.sd_graph.specs.Statement.{a_member}
use Rattle.sd_ddl.specs.Parts.{member_part}
use Rattle.sd_ddl.proofs.Conflicts.{stated}
use Rattle.sd_ddl.proofs.Plainly.{one_added}
use Rattle.sd_ddl.proofs.plain.add_members.Goals as goal

pub loop-collection-preserved : goal.loop-collection-preserved
loop-collection-preserved c =
    one_added (member_part c.args.object.now) c.args.collections.now c.args.graph.now c.loop-collection.graph
    c.add_member-answer.new.self c.loop-collection.collection-index c.collection-item.result
    c.loop-collection-test.true c.collection-item.is c.loop-collection.invariant
    (stated c.collection-item.result.place
    (a_member c.collection-item.result.text c.args.object.now) c.loop-collection.graph
    c.add_member-answer.new.self c.add_member-answer.result (Ok tt)
    c.add_member-answer.ensures c.in_ok-stop_at.ensures)
