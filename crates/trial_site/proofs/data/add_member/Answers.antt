use Rattle.sd_graph.specs.Statement.{a_member}
use Rattle.trial_site.proofs.Room.{room_after, room_nodes, room_edges}
use Rattle.trial_site.proofs.data.add_member.Goals as goal

pub unreachable-requires : goal.unreachable-requires
unreachable-requires c =
    room_nodes (a_member c.args.collection.now c.args.node.now) c.args.graph.now c.add_member.new.self c.add_member.result
    c.in-Err-TooManyNodes.field-0 c.requires
    c.in-Err-TooManyNodes.is c.add_member.ensures c.in-Err-TooManyNodes.field-0-is

pub unreachable-requires-in-Err-TooManyEdges : goal.unreachable-requires-in-Err-TooManyEdges
unreachable-requires-in-Err-TooManyEdges c =
    room_edges (a_member c.args.collection.now c.args.node.now) c.args.graph.now c.add_member.new.self c.add_member.result
    c.in-Err-TooManyEdges.field-0 c.requires
    c.in-Err-TooManyEdges.is c.add_member.ensures c.in-Err-TooManyEdges.field-0-is

pub returns-in-Ok-clause-room : goal.returns-in-Ok-clause-room
returns-in-Ok-clause-room c =
    room_after (a_member c.args.collection.now c.args.node.now) c.args.graph.now c.add_member.new.self c.in-Ok.ensures.0
