-- Statements put into a builder, one after another.
use Rattle.std.specs.Prelude.{◌≡◌, List, Result, Ok, Err, ⊤}
use Rattle.graph_spec.specs.DataGraph.{DataGraph}
use Rattle.graph_spec.specs.Statement.{Statement, a_member, an_edge, with_all}
use Rattle.graph_spec.specs.declared.Edge.{Edge}
use Rattle.graph_spec.specs.declared.Member.{Member}
use Rattle.sd_graph.specs.Statement.{Building, HasTooMany_nodes, HasTooMany_edges}
use Rattle.sd_graph.specs.declared.Limits.{Limits}
use Rattle.sd_graph.specs.declared.GraphRefusal.{GraphRefusal}
use Rattle.sd_graph.specs.declared.GraphRefusal.TheVariants.{TooManyNodes, TooManyEdges, NoMemory}

-- an edge, and a member, as they are stated
abbrev pub stated_edge : Edge → Statement
stated_edge e = an_edge e.from e.label e.to

-- the same of a member
abbrev pub stated_member : Member → Statement
stated_member m = a_member m.collection m.node

-- the graph with all that is stated
abbrev pub building_of : Building → List Statement → Building
building_of b all = record { limits = b.limits; graph = with_all b.graph all }

-- all statements were put in, or with all of them the graph has no room
abbrev pub PutsIn : List Statement → Building → Building → Result ⊤ GraphRefusal → Type 0
PutsIn all b c (Ok u) = c ≡ building_of b all
PutsIn all b c (Err TooManyNodes) = HasTooMany_nodes (building_of b all)
PutsIn all b c (Err TooManyEdges) = HasTooMany_edges (building_of b all)
PutsIn all b c (Err NoMemory) = ⊤

-- the answer is a builder of this graph
abbrev pub IsCopy : Limits → DataGraph → Result Building GraphRefusal → Type 0
IsCopy limits G (Ok b) = b ≡ record { limits = limits; graph = G }
IsCopy limits G (Err TooManyNodes) = ⊥
IsCopy limits G (Err TooManyEdges) = ⊥
IsCopy limits G (Err NoMemory) = ⊤
