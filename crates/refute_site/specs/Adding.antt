-- Adding what is stated to a graph that is built, and how it ends.
use Rattle.std.specs.Prelude.{◌≡◌, List, Result, Ok, Err, ⊤}
use Rattle.graph_spec.specs.DataGraph.{DataGraph}
use Rattle.graph_spec.specs.Statement.{Statement, with_all}
use Rattle.sd_graph.specs.ProgramLimits.{IsWithinProgram}
use Rattle.sd_graph.specs.Statement.{Building, IsWithin}
use Rattle.sd_graph.specs.declared.GraphRefusal.{GraphRefusal}
use Rattle.sd_graph.specs.declared.GraphRefusal.TheVariants.{TooManyNodes, TooManyEdges, NoMemory}

-- the builder's graph, and all that is stated besides
abbrev pub building_all : List Statement → Building → Building
building_all all b = record { limits = b.limits; graph = with_all b.graph all }

-- All is added, or the graph with all of it is past the limits. Out of memory comes at any time.
abbrev pub AddsAll : List Statement → Building → Building → Result ⊤ GraphRefusal → Type 0
AddsAll all b c (Ok u) = c ≡ building_all all b
AddsAll all b c (Err TooManyNodes) = ¬ IsWithin (building_all all b)
AddsAll all b c (Err TooManyEdges) = ¬ IsWithin (building_all all b)
AddsAll all b c (Err NoMemory) = ⊤

-- The graph is built, and is within the program's limits, or it is past them.
abbrev pub IsBuiltWithin : DataGraph → Result Building GraphRefusal → Type 0
IsBuiltWithin G (Ok b) = (b.graph ≡ G) × IsWithinProgram G
IsBuiltWithin G (Err TooManyNodes) = ¬ IsWithinProgram G
IsBuiltWithin G (Err TooManyEdges) = ¬ IsWithinProgram G
IsBuiltWithin G (Err NoMemory) = ⊤
