-- Where an edge or a member lies beside what is asked for.
use Rattle.std.specs.declared.cmp.Ordering.{Ordering}
use Rattle.std.specs.Ordering.{ordering_then}
use Rattle.sd_value.specs.declared.Value.{Value}
use Rattle.sd_value.specs.Order.{bytes_cmp, value_cmp}
use Rattle.graph_spec.specs.DataGraph.{Name, node}
use Rattle.graph_spec.specs.declared.Edge.{Edge}
use Rattle.graph_spec.specs.declared.Member.{Member}
use Rattle.graph_spec.specs.declared.Step.{Step}

-- beside the edges from a value
abbrev pub at_start : Value → Edge → Ordering
at_start u e = value_cmp (node e.from) u

-- beside the edges of a label
abbrev pub at_label : Name → Edge → Ordering
at_label label e = bytes_cmp e.label label

-- beside the edges to a value
abbrev pub at_end : Value → Edge → Ordering
at_end v e = value_cmp e.to v

-- the edges from a value by a label
abbrev pub at_start_label : Value → Name → Edge → Ordering
at_start_label u label e = ordering_then (at_start u e) (at_label label e)

-- beside one edge
abbrev pub at_edge : Value → Name → Value → Edge → Ordering
at_edge u label v e = ordering_then (at_start u e) (ordering_then (at_label label e) (at_end v e))

-- beside the edges to a value by a label
abbrev pub at_end_label : Value → Name → Edge → Ordering
at_end_label v label e = ordering_then (at_end v e) (at_label label e)

-- beside the members of a collection
abbrev pub at_collection : Name → Member → Ordering
at_collection collection m = bytes_cmp m.collection collection

-- beside one member
abbrev pub at_member : Name → Value → Member → Ordering
at_member collection v m = ordering_then (at_collection collection m) (value_cmp (node m.node) v)

-- an edge as it is seen from its start, and from its end
abbrev pub step_from : Edge → Step
step_from e = record { label = e.label; end = e.to }

-- as it is seen from its end
abbrev pub step_to : Edge → Step
step_to e = record { label = e.label; end = node e.from }
