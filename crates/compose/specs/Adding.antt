-- What a graph that is being built gains by statements, and when one of them has no room.
use Rattle.std.specs.Prelude.{◌≡◌, ◌⊎◌, ◌≤◌, length, Result, Ok, Err, ⊤}
use Rattle.sd_value.specs.Names.{Name}
use Rattle.sd_value.specs.declared.Datum.TheVariants.{Node}
use Rattle.sd_value.specs.declared.Value.TheVariants.{Data}
use Rattle.sd_graph.specs.Statement.{Statement, a_node, a_member, an_edge, Building}
use Rattle.sd_graph.specs.Statement.{building_with, HasTooMany_nodes, HasTooMany_edges, IsBuilt}
use Rattle.sd_graph.specs.Statement.{IsStatedIn}
use Rattle.sd_graph.specs.declared.GraphRefusal.{GraphRefusal}
use Rattle.sd_graph.specs.declared.GraphRefusal.TheVariants.{TooManyNodes, TooManyEdges, NoMemory}

-- the node stands in the statement
abbrev pub Names : Statement → Name → Type 0
Names (a_node n) m = n ≡ m
Names (a_member c n) m = n ≡ m
Names (an_edge n l v) m = (n ≡ m) ⊎ (v ≡ Data (Node m))

-- the first statement says the second: it is that one, or that node stands in it
abbrev pub Says : Statement → Statement → Type 0
Says s (a_node m) = Names s m
Says s (a_member c n) = s ≡ a_member c n
Says s (an_edge n l v) = s ≡ an_edge n l v

-- a statement with Q says this one
pub record IsSaidBy (Q : Statement → Type 0) (x : Statement) : Type 0 where
  pub by : Statement
  pub one : Q by
  pub says : Says by x

-- from one graph to another nothing is lost, and nothing comes but what statements with Q say
pub record Reaches (Q : Statement → Type 0) (b c : Building) : Type 0 where
  pub limits : c.limits ≡ b.limits
  pub built : IsBuilt b → IsBuilt c
  pub kept : (x : Statement) → IsStatedIn b.graph x → IsStatedIn c.graph x
  pub only : (x : Statement) → IsStatedIn c.graph x → IsStatedIn b.graph x ⊎ IsSaidBy Q x

-- and all statements with Q are in the second
pub record Gains (Q : Statement → Type 0) (b c : Building) : Type 0 where
  pub way : Reaches Q b c
  pub stated : (x : Statement) → Q x → IsStatedIn c.graph x

-- the graph has no room for the statement, for this reason
abbrev pub IsOver : Statement → Building → GraphRefusal → Type 0
IsOver s b TooManyNodes = HasTooMany_nodes (building_with s b)
IsOver s b TooManyEdges =
    (length (building_with s b).graph.nodes ≤ b.limits.nodes)
    × HasTooMany_edges (building_with s b)
IsOver s b NoMemory = ⊥

-- some statements with Q were put in, and for one there is no room
pub record Stops (Q : Statement → Type 0) (b : Building) (e : GraphRefusal) : Type 0 where
  pub reached : Building
  pub way : Reaches Q b reached
  pub next : Statement
  pub one : Q next
  pub over : IsOver next reached e

-- what an answer says: all statements with Q were put in, or there was no room, or it was out of memory
abbrev pub AddsAll : (Statement → Type 0) → Building → Building → Result ⊤ GraphRefusal → Type 0
AddsAll Q b c (Ok u) = Gains Q b c
AddsAll Q b c (Err TooManyNodes) = Stops Q b TooManyNodes
AddsAll Q b c (Err TooManyEdges) = Stops Q b TooManyEdges
AddsAll Q b c (Err NoMemory) = Unit {0}
