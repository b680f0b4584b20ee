-- What is written is read again.
use Rattle.std.specs.Prelude.{◌≡◌, ◌≤◌, ℕ, ℤ, pos, negsuc, [], length, Ok, Contains}
use Rattle.sd_value.specs.declared.Datum.TheVariants.{Int}
use Rattle.sd_value.specs.declared.Value.TheVariants.{Data}
use Rattle.graph_spec.specs.declared.Edge.{Edge}
use Rattle.graph_spec.specs.DataGraph.{DataGraph}
use Rattle.sd_graph.specs.declared.Limits.{Limits}
use Rattle.sd_graph.specs.Statement.{Building, IsWithin}
use Rattle.sd_ddl.specs.Written.{graph_text}
use Rattle.sd_ddl.specs.Reads.{Reads}

-- what an i64 can be
abbrev pub IsI64 : ℤ → Type 0
IsI64 (pos n) = n ≤ 9223372036854775807
IsI64 (negsuc n) = n ≤ 9223372036854775807

-- the integers of the graph are those of the program
abbrev pub HasI64s : DataGraph → Type 0
HasI64s G = (e : Edge) (n : ℤ) → Contains G.edges e → e.to ≡ Data (Int n) → IsI64 n

abbrev pub empty : Limits → Building
empty limits = record { limits = limits; graph = record { nodes = []; edges = []; members = [] } }

-- the graph's text, read into an empty builder with room, gives the graph again
abbrev pub IsReadAgain : DataGraph → Type 0
IsReadAgain G =
    (limits : Limits) (limit : ℕ) → length (graph_text G) ≤ limit → IsWithin (record {
      limits = limits;
      graph = G;
    })
    → Reads limit (graph_text G) (empty limits) (record { limits = limits; graph = G }) (Ok tt)
