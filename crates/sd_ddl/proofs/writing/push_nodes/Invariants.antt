use Rattle.std.proofs.Common.{◌≡◌, ◌++◌, ◌≤◌, take, drop, length}
use Rattle.std.specs.List.{flat_map}
use Rattle.graph_spec.specs.declared.Edge.{Edge}
use Rattle.sd_ddl.specs.Groups.{node_in}
use Rattle.sd_ddl.specs.Written.{node_text}
use Rattle.sd_ddl.proofs.Walked.{IsLeft}
use Rattle.sd_ddl.proofs.writing.push_nodes.Given as goal

abbrev pub invariant-loop-node : goal.invariant-loop-node
invariant-loop-node l = record {
  written : l.out.items ≡ l.fn.out.items ++ flat_map (node_text l.graph) (take l.node-index l.graph.nodes);
  edges_within : l.edges_done ≤ length l.graph.edges;
  members_within : l.members_done ≤ length l.sorted;
  edges : IsLeft (λ (e : Edge). e.from) (drop l.node-index l.graph.nodes) l.graph.edges (drop l.edges_done l.graph.edges);
  members : IsLeft node_in (drop l.node-index l.graph.nodes) l.sorted (drop l.members_done l.sorted);
}
