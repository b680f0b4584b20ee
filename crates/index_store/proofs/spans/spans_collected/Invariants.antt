use Rattle.std.proofs.Common.{◌≡◌, ◌<◌, ℕ, length}
use Rattle.std.specs.Prelude.{slice_index_or}
use Rattle.graph_spec.specs.DataGraph.{Name}
use Rattle.edge_queries.specs.Places.{at_collection}
use Rattle.index_store.specs.Indexed.{IsSpanOf}
use Rattle.index_store.specs.declared.spans.Span.{Span}
use Rattle.index_store.proofs.spans.spans_collected.Given as goal

abbrev pub invariant-loop-collection : goal.invariant-loop-collection
invariant-loop-collection l = (length l.spans.items ≡ l.collection-index)
    × ((i : ℕ) (k : Name) (s : Span) → i < l.collection-index → IsSpanOf (at_collection (slice_index_or l.collections i k)) (l.members) (slice_index_or l.spans.items i s))
