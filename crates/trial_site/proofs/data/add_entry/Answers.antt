use Rattle.std.proofs.Common.{arith}
use Rattle.trial_site.proofs.Room.{room_less, room_after_five}
use Rattle.trial_site.proofs.data.add_entry.Goals as goal

pub add_text-requires : goal.add_text-requires
add_text-requires c =
    room_less 1 4 c.add_member.new.graph (omega arith) (c.in_ok-add_member.ensures.room 4 c.requires.room)

pub add_edge-requires : goal.add_edge-requires
add_edge-requires c =
    room_less 1 3 c.add_text.new.graph (omega arith)
    (c.in_ok-add_text.ensures.room 3 (c.in_ok-add_member.ensures.room 4 c.requires.room))

pub add_text-requires-2 : goal.add_text-requires-2
add_text-requires-2 c =
    room_less 1 2 c.add_edge.new.graph (omega arith)
    (c.in_ok-add_edge.ensures.room 2
    (c.in_ok-add_text.ensures.room 3 (c.in_ok-add_member.ensures.room 4 c.requires.room)))

pub add_text-requires-3 : goal.add_text-requires-3
add_text-requires-3 c =
    c.in_ok-add_text-2.ensures.room 1
    (c.in_ok-add_edge.ensures.room 2
    (c.in_ok-add_text.ensures.room 3 (c.in_ok-add_member.ensures.room 4 c.requires.room)))

pub returns-clause-room : goal.returns-clause-room
returns-clause-room c =
    room_after_five c.args.graph.now c.add_member.new.graph c.add_text.new.graph c.add_edge.new.graph
    c.add_text-2.new.graph c.add_text-3.new.graph
    c.in_ok-add_member.ensures.room c.in_ok-add_text.ensures.room c.in_ok-add_edge.ensures.room
    c.in_ok-add_text-2.ensures.room c.in_ok-add_text-3.ensures.room
