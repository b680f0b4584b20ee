use Rattle.std.proofs.Common.{Ok}
use Rattle.sd_graph.specs.Statement.{a_node}
use Rattle.sd_ddl.proofs.Conflicts.{stated}
use Rattle.sd_ddl.proofs.Plainly.{object_added}
use Rattle.sd_ddl.proofs.plain.add_object.Goals as goal

pub returns : goal.returns
returns c =
    object_added c.args.name.now c.args.collections.now c.args.fields.now c.args.graph.now c.add_node.new.self
    c.add_members.new.graph c.add_fields.new.graph c.add_fields.result
    (stated c.args.name.now.place (a_node c.args.name.now.text) c.args.graph.now c.add_node.new.self c.add_node.result
    (Ok tt) c.add_node.ensures c.in_ok-stop_at.ensures)
    c.in_ok-add_members.ensures c.add_fields.ensures
