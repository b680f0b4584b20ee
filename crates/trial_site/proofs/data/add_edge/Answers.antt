use Rattle.sd_graph.specs.Statement.{an_edge}
use Rattle.trial_site.specs.Data.{as_value}
use Rattle.trial_site.proofs.Room.{room_after, room_nodes, room_edges}
use Rattle.trial_site.proofs.data.add_edge.Goals as goal

pub unreachable-requires : goal.unreachable-requires
unreachable-requires c =
    room_nodes (an_edge c.args.node.now c.args.label.now (as_value c.args.value)) c.args.graph.now c.add_edge.new.self c.add_edge.result
    c.in-Err-TooManyNodes.field-0 c.requires
    c.in-Err-TooManyNodes.is c.add_edge.ensures c.in-Err-TooManyNodes.field-0-is

pub unreachable-requires-in-Err-TooManyEdges : goal.unreachable-requires-in-Err-TooManyEdges
unreachable-requires-in-Err-TooManyEdges c =
    room_edges (an_edge c.args.node.now c.args.label.now (as_value c.args.value)) c.args.graph.now c.add_edge.new.self c.add_edge.result
    c.in-Err-TooManyEdges.field-0 c.requires
    c.in-Err-TooManyEdges.is c.add_edge.ensures c.in-Err-TooManyEdges.field-0-is

pub returns-in-Ok-clause-room : goal.returns-in-Ok-clause-room
returns-in-Ok-clause-room c =
    room_after (an_edge c.args.node.now c.args.label.now (as_value c.args.value)) c.args.graph.now c.add_edge.new.self c.in-Ok.ensures.0
