-- What an edit is of, in a graph's edges and members.
use Rattle.std.specs.Prelude.{List, [], Contains}
use Rattle.std.specs.BTreeMap.{is_at}
use Rattle.std.specs.BTreeSet.{insert_key}
use Rattle.std.specs.Set.{remove_key}
use Rattle.graph_spec.specs.declared.Edge.{Edge}
use Rattle.graph_spec.specs.declared.Member.{Member}
use Rattle.graph_spec.specs.DataGraph.{DataGraph}
use Rattle.graph_spec.specs.Orders.{edge_cmp, member_cmp}
use Rattle.edit_spec.specs.declared.Edit.{Edit}
use Rattle.edit_spec.specs.declared.Edit.TheVariants.{Add, Remove, Enter, Leave}

-- edges and members, and no declared nodes
abbrev pub layer_graph : List Edge → List Member → DataGraph
layer_graph edges members = record { nodes = []; edges = edges; members = members }

-- the graph has what the edit is of
abbrev pub HasItem : DataGraph → Edit → Type 0
HasItem G (Add e) = Contains G.edges e
HasItem G (Remove e) = Contains G.edges e
HasItem G (Enter m) = Contains G.members m
HasItem G (Leave m) = Contains G.members m

-- with one edge more, and one member more
abbrev pub edge_with : Edge → DataGraph → DataGraph
edge_with e G = layer_graph (insert_key edge_cmp G.edges e) G.members

abbrev pub member_with : Member → DataGraph → DataGraph
member_with m G = layer_graph G.edges (insert_key member_cmp G.members m)

-- without an edge, and without a member
abbrev pub edge_without : Edge → DataGraph → DataGraph
edge_without e G = layer_graph (remove_key (is_at (edge_cmp e)) G.edges) G.members

abbrev pub member_without : Member → DataGraph → DataGraph
member_without m G = layer_graph G.edges (remove_key (is_at (member_cmp m)) G.members)

-- with what the edit is of
abbrev pub items_with : Edit → DataGraph → DataGraph
items_with (Add e) G = edge_with e G
items_with (Remove e) G = edge_with e G
items_with (Enter m) G = member_with m G
items_with (Leave m) G = member_with m G

-- without it
abbrev pub items_without : Edit → DataGraph → DataGraph
items_without (Add e) G = edge_without e G
items_without (Remove e) G = edge_without e G
items_without (Enter m) G = member_without m G
items_without (Leave m) G = member_without m G
