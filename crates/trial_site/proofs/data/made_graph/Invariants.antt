use Rattle.std.proofs.Common.{◌≡◌, ◌<◌, ◌*◌, ◌-◌, flat_map}
use Rattle.trial_spec.specs.Data.{below, entry, statements, state_at}
use Rattle.graph_spec.specs.Statement.{with_all, empty_graph}
use Rattle.trial_site.specs.Room.{HasRoom}
use Rattle.trial_site.proofs.data.made_graph.Given as goal

abbrev pub invariant-loop-made : goal.invariant-loop-made
invariant-loop-made l = record {
  state : l.generator.state ≡ state_at l.entries l.made;
  small : l.generator.state < 2147483648;
  graph : l.graph.graph ≡ with_all empty_graph (flat_map (λ n. statements (entry l.entries n)) (below l.made));
  room : HasRoom (100000 - 5 * l.made) l.graph;
}
