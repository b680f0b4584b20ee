use Rattle.std.proofs.Common.{arith}
use Rattle.trial_site.proofs.Statements.{more_state, more_graph}
use Rattle.trial_site.proofs.Room.{room_after_entry}
use Rattle.trial_site.proofs.data.made_graph.Goals as goal

pub loop-made-preserved : goal.loop-made-preserved
loop-made-preserved c = record {
  state = more_state c.args.entries c.loop-made.made c.loop-made.generator.state c.entry-entry.new.self.state
      c.loop-made.invariant.state c.entry-entry.ensures.state;
  small = c.entry-entry.ensures.below;
  graph = more_graph c.args.entries c.loop-made.made c.loop-made.generator.state c.loop-made.graph.graph
      c.add_entry.new.graph.graph c.entry-entry.result c.loop-made.invariant.state c.loop-made.invariant.graph
      c.entry-entry.ensures.entry c.in_ok-add_entry.ensures.stated;
  room = room_after_entry c.loop-made.made c.args.entries c.loop-made.graph c.add_entry.new.graph (omega arith) c.requires
      c.loop-made.invariant.room c.in_ok-add_entry.ensures.room;
}
