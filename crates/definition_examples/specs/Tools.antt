-- A short name for an edge.
use Rattle.sd_value.specs.declared.Value.{Value}
use Rattle.graph_spec.specs.DataGraph.{Name}
use Rattle.graph_spec.specs.declared.Edge.{Edge}

-- the edge of these three parts
abbrev pub edge : Name → Name → Value → Edge
edge from label to = record { from = from; label = label; to = to }
