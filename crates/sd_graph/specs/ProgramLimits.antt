-- The program's limits of a graph.
use Rattle.std.specs.Prelude.{◌≤◌}
use Rattle.graph_spec.specs.DataGraph.{DataGraph}
use Rattle.sd_graph.specs.Statement.{IsWithin}
use Rattle.sd_graph.specs.declared.Limits.{Limits}

-- the most nodes, and the most edges and members together
abbrev pub program_limits : Limits
program_limits = record { nodes = 1048576; edges = 4194304 }

-- limits that are no greater than those of the program
abbrev pub AreWithinProgram : Limits → Type 0
AreWithinProgram limits =
    (limits.nodes ≤ program_limits.nodes) × (limits.edges ≤ program_limits.edges)

-- a graph within the limits of the program
abbrev pub IsWithinProgram : DataGraph → Type 0
IsWithinProgram G = IsWithin (record { limits = program_limits; graph = G })
