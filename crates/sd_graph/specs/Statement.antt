-- A graph that is being built: what is stated of it, one statement after another, and when there is no room.
use Rattle.std.specs.Prelude.{◌≡◌, ◌<◌, ◌≤◌, ◌+◌, ℕ, List, [], length, Contains, Result, Ok, Err, Option, Some, None, ⊤}
use Rattle.std.specs.BTreeSet.{insert_key}
use Rattle.sd_value.specs.declared.Datum.TheVariants.{Node}
use Rattle.sd_value.specs.declared.Value.{Value}
use Rattle.sd_value.specs.declared.Value.TheVariants.{Data, Page}
use Rattle.sd_value.specs.Order.{bytes_cmp}
pub use Rattle.graph_spec.specs.Statement.{Statement, a_node, a_member, an_edge}
pub use Rattle.graph_spec.specs.Statement.{with_name, with_edge, with_member, with_end, graph_with}
use Rattle.graph_spec.specs.DataGraph.{DataGraph, Name, IsWellFormed}
use Rattle.graph_spec.specs.Orders.{edge_cmp, member_cmp}
use Rattle.graph_spec.specs.declared.Edge.{Edge}
use Rattle.graph_spec.specs.declared.Member.{Member}
use Rattle.sd_graph.specs.declared.Limits.{Limits}
use Rattle.sd_graph.specs.declared.GraphRefusal.{GraphRefusal}
use Rattle.sd_graph.specs.declared.GraphRefusal.TheVariants.{TooManyNodes, TooManyEdges, NoMemory}

-- a graph that is being built, and how large it may become
pub record Building : Type 0 where
  pub limits : Limits
  pub graph : DataGraph

abbrev pub building_with : Statement → Building → Building
building_with s b = record { limits = b.limits; graph = graph_with s b.graph }

abbrev pub HasTooMany_nodes : Building → Type 0
HasTooMany_nodes b = b.limits.nodes < length b.graph.nodes

-- members count as edges
abbrev pub HasTooMany_edges : Building → Type 0
HasTooMany_edges b = b.limits.edges < length b.graph.edges + length b.graph.members

abbrev pub IsWithin : Building → Type 0
IsWithin b =
    (length b.graph.nodes ≤ b.limits.nodes)
    × (length b.graph.edges + length b.graph.members ≤ b.limits.edges)

-- what adding does, and what each answer means. A refusal changes nothing
abbrev pub Adds : Statement → Building → Building → Result ⊤ GraphRefusal → Type 0
Adds s b c (Ok u) = (c ≡ building_with s b) × IsWithin (building_with s b)
Adds s b c (Err TooManyNodes) = (c ≡ b) × HasTooMany_nodes (building_with s b)
Adds s b c (Err TooManyEdges) =
    (c ≡ b) × (length (building_with s b).graph.nodes ≤ b.limits.nodes)
    × HasTooMany_edges (building_with s b)
Adds s b c (Err NoMemory) = c ≡ b

-- what may be at an edge's end
abbrev pub IsData : Value → Type 0
IsData (Data d) = ⊤
IsData (Page p) = ⊥

abbrev pub IsEmpty : DataGraph → Type 0
IsEmpty G = (G.nodes ≡ []) × (G.edges ≡ []) × (G.members ≡ [])

-- what every builder keeps to
pub record IsBuilt (b : Building) : Type 0 where
  pub well_formed : IsWellFormed b.graph
  pub within : IsWithin b

-- the graph says it already
abbrev pub IsStatedIn : DataGraph → Statement → Type 0
IsStatedIn G (a_node n) = Contains G.nodes n
IsStatedIn G (a_member c n) = Contains G.members (record { collection = c; node = n })
IsStatedIn G (an_edge n l v) = Contains G.edges (record { from = n; label = l; to = v })

-- whether this many nodes, and edges and members together, are too many
abbrev pub Refuses : Limits → ℕ → ℕ → Option GraphRefusal → Type 0
Refuses l nodes edges None = (nodes ≤ l.nodes) × (edges ≤ l.edges)
Refuses l nodes edges (Some TooManyNodes) = l.nodes < nodes
Refuses l nodes edges (Some TooManyEdges) = (nodes ≤ l.nodes) × (l.edges < edges)
Refuses l nodes edges (Some NoMemory) = ⊥

-- the same of an answer that may also be out of memory
abbrev pub Fits : Limits → ℕ → ℕ → Result ⊤ GraphRefusal → Type 0
Fits l nodes edges (Ok u) = (nodes ≤ l.nodes) × (edges ≤ l.edges)
Fits l nodes edges (Err TooManyNodes) = l.nodes < nodes
Fits l nodes edges (Err TooManyEdges) = (nodes ≤ l.nodes) × (l.edges < edges)
Fits l nodes edges (Err NoMemory) = ⊤
