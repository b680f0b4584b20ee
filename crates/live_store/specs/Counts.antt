-- Graphs that differ by one edge or by one member.
use Rattle.std.specs.Prelude.{◌≡◌, ◌≢◌, ◌⊎◌, ◌↔◌, ℕ, Bool, true, false, IsTrue, Contains}
use Rattle.graph_spec.specs.declared.Edge.{Edge}
use Rattle.graph_spec.specs.declared.Member.{Member}
use Rattle.graph_spec.specs.DataGraph.{DataGraph, Name, node}

-- one, if so
abbrev pub one_if : Bool → ℕ
one_if true = 1
one_if false = 0

-- H has the edges of L but for one, which it has or not
pub record OneEdge (L H : DataGraph) (x : Edge) (is : Bool) : Type 0 where
  pub there : IsTrue is ↔ Contains H.edges x
  pub others : (k : Edge) → k ≢ x → Contains L.edges k ↔ Contains H.edges k

-- H has the members of L but for one, which it has or not
pub record OneMember (L H : DataGraph) (x : Member) (is : Bool) : Type 0 where
  pub there : IsTrue is ↔ Contains H.members x
  pub others : (k : Member) → k ≢ x → Contains L.members k ↔ Contains H.members k

-- a node of the graph, or this one
abbrev pub HasOneMore : DataGraph → Name → Name → Type 0
HasOneMore G name n = Contains G.nodes n ⊎ (n ≡ name)

-- a node of the graph, or of the edge
abbrev pub HasNodes : DataGraph → Edge → Name → Type 0
HasNodes G e n = Contains G.nodes n ⊎ ((n ≡ e.from) ⊎ (e.to ≡ node n))
