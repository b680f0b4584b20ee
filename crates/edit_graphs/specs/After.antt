-- The graph after an edit, as it is made from the lists: what is added or entered is put in as a
-- builder does it, and what is removed or left is taken out.
use Rattle.std.specs.Prelude.{List}
use Rattle.std.specs.BTreeMap.{is_at}
use Rattle.std.specs.Set.{remove_key}
use Rattle.graph_spec.specs.DataGraph.{DataGraph}
use Rattle.graph_spec.specs.Orders.{edge_cmp, member_cmp}
use Rattle.graph_spec.specs.declared.Edge.{Edge}
use Rattle.graph_spec.specs.declared.Member.{Member}
use Rattle.graph_spec.specs.Statement.{an_edge, a_member, graph_with}
use Rattle.edit_spec.specs.declared.Edit.{Edit}
use Rattle.edit_spec.specs.declared.Edit.TheVariants.{Add, Remove, Enter, Leave}

-- the edges without one
abbrev pub without_edge : Edge → List Edge → List Edge
without_edge e edges = remove_key (is_at (edge_cmp e)) edges

-- the members without one
abbrev pub without_member : Member → List Member → List Member
without_member m members = remove_key (is_at (member_cmp m)) members

-- the graph after the edit
abbrev pub graph_after : Edit → DataGraph → DataGraph
graph_after (Add e) G = graph_with (an_edge e.from e.label e.to) G
graph_after (Remove e) G = record {
  nodes = G.nodes;
  edges = without_edge e G.edges;
  members = G.members;
}
graph_after (Enter m) G = graph_with (a_member m.collection m.node) G
graph_after (Leave m) G = record {
  nodes = G.nodes;
  edges = G.edges;
  members = without_member m G.members;
}
