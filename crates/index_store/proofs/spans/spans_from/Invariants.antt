use Rattle.std.proofs.Common.{◌≡◌, ◌<◌, ℕ, length}
use Rattle.std.specs.Prelude.{slice_index_or}
use Rattle.sd_value.specs.declared.Value.{Value}
use Rattle.edge_queries.specs.Places.{at_start}
use Rattle.index_store.specs.Indexed.{IsSpanOf}
use Rattle.index_store.specs.declared.spans.Span.{Span}
use Rattle.index_store.proofs.spans.spans_from.Given as goal

abbrev pub invariant-loop-node : goal.invariant-loop-node
invariant-loop-node l = (length l.spans.items ≡ l.node-index)
    × ((k : ℕ) (v : Value) (s : Span) → k < l.node-index → IsSpanOf (at_start (slice_index_or l.nodes k v)) l.edges (slice_index_or l.spans.items k s))
