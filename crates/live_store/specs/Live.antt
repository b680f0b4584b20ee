-- A graph as the graph that was indexed, with what came and without what went since.
use Rattle.std.specs.Prelude.{◌≡◌, ◌⊎◌, ◌≤◌, ◌<◌, ◌^◌, ◌↔◌, Bool, true, false, not, List, length, Contains, Result, Ok, Err, ⊤}
use Rattle.std.specs.List.Sorted.{IsStrictlySortedBy}
use Rattle.sd_value.specs.declared.Datum.TheVariants.{Node}
use Rattle.sd_value.specs.declared.Value.{Value}
use Rattle.sd_value.specs.declared.Value.TheVariants.{Data, Page}
use Rattle.sd_value.specs.Order.{bytes_cmp, value_cmp}
use Rattle.graph_spec.specs.declared.Edge.{Edge}
use Rattle.graph_spec.specs.declared.Member.{Member}
use Rattle.graph_spec.specs.DataGraph.{DataGraph, Name, node, IsWellFormed, IsValueOf, IsLabelOf}
use Rattle.graph_spec.specs.Orders.{edge_cmp, member_cmp}
use Rattle.graph_spec.specs.Steps.{IsCountOf}
use Rattle.sd_graph.specs.Statement.{Building, IsWithin, HasTooMany_nodes, HasTooMany_edges}
use Rattle.sd_graph.specs.Undone.{without, without_end}
use Rattle.sd_graph.specs.declared.GraphRefusal.{GraphRefusal}
use Rattle.sd_graph.specs.declared.GraphRefusal.TheVariants.{TooManyNodes, TooManyEdges, NoMemory}
use Rattle.edit_spec.specs.declared.Edit.{Edit}
use Rattle.edit_spec.specs.declared.Edit.TheVariants.{Add, Remove, Enter, Leave}
use Rattle.edit_spec.specs.Edited.{HasEdgeAfter, HasMemberAfter}
use Rattle.edit_graphs.specs.After.{graph_after}
use Rattle.live_layers.specs.Items.{HasItem, items_with, items_without}
use Rattle.live_store.specs.declared.told.Told.{Told}
use Rattle.live_store.specs.declared.nodes.Declared.{Declared}
use Rattle.live_store.specs.Shift.{Shift, minus, plus}

-- the graph after an edit, which may grow as far as before
abbrev pub building_after : Edit → Building → Building
building_after e b = record { limits = b.limits; graph = graph_after e b.graph }

-- what an edit does, and what each answer means. A refusal changes nothing
abbrev pub Applies : Edit → Building → Building → Result ⊤ GraphRefusal → Type 0
Applies e b c (Ok u) = (c ≡ building_after e b) × IsWithin (building_after e b)
Applies e b c (Err TooManyNodes) = (c ≡ b) × HasTooMany_nodes (building_after e b)
Applies e b c (Err TooManyEdges) =
    (c ≡ b) × (length (building_after e b).graph.nodes ≤ b.limits.nodes)
    × HasTooMany_edges (building_after e b)
Applies e b c (Err NoMemory) = c ≡ b

-- the graph B without the edges and members of D, with those of C, and with these nodes
abbrev pub changed : (B C D : DataGraph) → List Name → DataGraph
changed B C D nodes = record {
  nodes = plus bytes_cmp B.nodes nodes;
  edges = plus edge_cmp (minus edge_cmp B.edges D.edges) C.edges;
  members = plus member_cmp (minus member_cmp B.members D.members) C.members;
}

-- the edges and the members are in order
pub record AreAscending (G : DataGraph) : Type 0 where
  pub edges : IsStrictlySortedBy edge_cmp G.edges
  pub members : IsStrictlySortedBy member_cmp G.members

-- L is B with the edges and members of C and these nodes, and without the edges and members of D
pub record Layers (B C D : DataGraph) (nodes : List Name) (L : DataGraph) : Type 0 where
  pub base : IsWellFormed B
  pub came : AreAscending C
  pub gone : AreAscending D
  pub whole : IsWellFormed L
  pub nodes_ascend : IsStrictlySortedBy bytes_cmp nodes
  pub node_moves : Shift (Contains B.nodes) (Contains L.nodes) (λ n. ⊥) (Contains nodes)
  pub edge_moves : Shift (Contains B.edges) (Contains L.edges) (Contains D.edges) (Contains C.edges)
  pub member_moves : Shift (Contains B.members) (Contains L.members) (Contains D.members)
      (Contains C.members)

-- how large a graph is
pub record GraphIsTold (L : DataGraph) (told : Told) : Type 0 where
  pub node_count : told.sizes.nodes ≡ length L.nodes
  pub edge_count : told.sizes.edges ≡ length L.edges
  pub value_count : IsCountOf value_cmp (IsValueOf L) told.sizes.values
  pub label_count : IsCountOf bytes_cmp (IsLabelOf L) told.sizes.labels
  pub member_count : told.members ≡ length L.members

-- numbers far from the greatest one, to which a few may be added
pub record AreSmall (told : Told) : Type 0 where
  pub nodes : told.sizes.nodes < 2 ^ 32
  pub edges : told.sizes.edges < 2 ^ 32
  pub values : told.sizes.values < 2 ^ 32
  pub labels : told.sizes.labels < 2 ^ 32
  pub members : told.members < 2 ^ 32

-- the store's parts fit together
pub record IsLive (b : Building) (B C D : DataGraph) (nodes : List Name) (told : Told) : Type 0 where
  pub layers : Layers B C D nodes b.graph
  pub reported : GraphIsTold b.graph told
  pub within : IsWithin b

-- a node that the edit declares
abbrev pub IsNodeOf : Edit → Name → Type 0
IsNodeOf (Add e) n = (n ≡ e.from) ⊎ (e.to ≡ node n)
IsNodeOf (Remove e) n = ⊥
IsNodeOf (Enter m) n = n ≡ m.node
IsNodeOf (Leave m) n = ⊥

-- one of these nodes, or one of the edit's that the graph didn't declare
abbrev pub IsNewNode : DataGraph → List Name → Edit → Name → Type 0
IsNewNode B nodes e n = Contains nodes n ⊎ ((Contains B.nodes n → ⊥) × IsNodeOf e n)

-- whether the edit puts something in
abbrev pub puts : Edit → Bool
puts (Add e) = true
puts (Remove e) = false
puts (Enter m) = true
puts (Leave m) = false

-- the edit that puts the same in, or takes it out
abbrev pub turned : Bool → Edit → Edit
turned true (Add e) = Add e
turned true (Remove e) = Add e
turned true (Enter m) = Enter m
turned true (Leave m) = Enter m
turned false (Add e) = Remove e
turned false (Remove e) = Remove e
turned false (Enter m) = Leave m
turned false (Leave m) = Leave m

-- H has the edges and members of G after an edit, whatever its nodes
pub record HasItems (G : DataGraph) (e : Edit) (H : DataGraph) : Type 0 where
  pub ascending : AreAscending H
  pub edges : (k : Edge) → Contains H.edges k ↔ HasEdgeAfter G e k
  pub members : (k : Member) → Contains H.members k ↔ HasMemberAfter G e k

-- no node, so that it is a value only at the end of an edge
abbrev pub IsAtom : Value → Type 0
IsAtom (Data (Node n)) = ⊥
IsAtom (Data d) = ⊤
IsAtom (Page p) = ⊤

-- the graph with what the edit is of, or without it
abbrev pub items_put : Bool → Edit → DataGraph → DataGraph
items_put true e G = items_with e G
items_put false e G = items_without e G

-- what an edit makes of what came and of what went: of what the indexed graph has, it changes what
-- went, and else what came
abbrev pub IsChanged : (B C D : DataGraph) → Edit → (C' D' : DataGraph) → Type 0
IsChanged B C D e C' D' =
    (HasItem B e × (D' ≡ items_put (not (puts e)) e D) × (C' ≡ C))
    ⊎ ((HasItem B e → ⊥) × (C' ≡ items_put (puts e) e C) × (D' ≡ D))

-- the nodes without those that an edit added
abbrev pub restored : Edit → Declared → List Name → List Name
restored (Add e) d names = without e.from d.start (without_end e.to d.end names)
restored (Remove e) d names = names
restored (Enter m) d names = without m.node d.start names
restored (Leave m) d names = names

-- in order, and among them the nodes and the ends of edges that came or went
pub record AreEnds (C D : DataGraph) (nodes : List Name) (values : List Value) : Type 0 where
  pub ascending : IsStrictlySortedBy value_cmp values
  pub named : (n : Name) → Contains nodes n → Contains values (node n)
  pub came : (e : Edge) → Contains C.edges e → Contains values e.to
  pub gone : (e : Edge) → Contains D.edges e → Contains values e.to

-- the same of the labels of edges
pub record AreLabels (C D : DataGraph) (labels : List Name) : Type 0 where
  pub ascending : IsStrictlySortedBy bytes_cmp labels
  pub came : (e : Edge) → Contains C.edges e → Contains labels e.label
  pub gone : (e : Edge) → Contains D.edges e → Contains labels e.label

-- new has what old has, and those with P that the graph doesn't declare
pub record NewNames (B : DataGraph) (P : Name → Type 0) (old new : List Name) : Type 0 where
  pub sound : (n : Name) → Contains new n → Contains old n ⊎ ((Contains B.nodes n → ⊥) × P n)
  pub kept : (n : Name) → Contains old n → Contains new n
  pub there : (n : Name) → P n → Contains B.nodes n ⊎ Contains new n
