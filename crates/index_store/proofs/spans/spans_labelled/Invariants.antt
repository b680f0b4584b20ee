use Rattle.std.proofs.Common.{◌≡◌, ◌<◌, ℕ, length}
use Rattle.std.specs.Prelude.{slice_index_or}
use Rattle.graph_spec.specs.DataGraph.{Name}
use Rattle.edge_queries.specs.Places.{at_label}
use Rattle.index_store.specs.Indexed.{IsSpanOf, edges_at}
use Rattle.index_store.specs.declared.spans.Span.{Span}
use Rattle.index_store.proofs.spans.spans_labelled.Given as goal

abbrev pub invariant-loop-label : goal.invariant-loop-label
invariant-loop-label l = (length l.spans.items ≡ l.label-index)
    × ((i : ℕ) (k : Name) (s : Span) → i < l.label-index → IsSpanOf (at_label (slice_index_or l.labels i k)) (edges_at l.edges l.by_label) (slice_index_or l.spans.items i s))
