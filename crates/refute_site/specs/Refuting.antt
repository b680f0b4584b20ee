-- What is found of one graph.
use Rattle.std.specs.Prelude.{◌≡◌, Option, Some, None}
use Rattle.graph_spec.specs.DataGraph.{DataGraph}

-- the graph itself, if it fits and P isn't so of it
abbrev pub IsRefuting : (Fits P : DataGraph → Type 0) → DataGraph → Option DataGraph → Type 0
IsRefuting Fits P G None = Fits G → P G
IsRefuting Fits P G (Some H) = (H ≡ G) × Fits G × (P G → ⊥)
