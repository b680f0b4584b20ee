use Rattle.std.proofs.Common.{◌≡◌, ◌<◌, ℕ, length, map, ◌++◌}
use Rattle.std.specs.Prelude.{slice_index_or}
use Rattle.sd_value.specs.declared.Value.{Value}
use Rattle.edge_queries.specs.Places.{at_end}
use Rattle.index_store.specs.Indexed.{IsSpanOf, edges_at}
use Rattle.index_store.specs.Ranks.{item_at}
use Rattle.index_store.specs.declared.spans.Span.{Span}
use Rattle.index_store.proofs.spans.spans_to.Given as goal

abbrev pub invariant-loop-place : goal.invariant-loop-place
invariant-loop-place l = (length l.spans.items ≡ l.place-index)
    × ((d : Value) (k : ℕ) (v : Value) (s : Span) → k < l.place-index
    → IsSpanOf (at_end (slice_index_or (map (item_at (l.nodes ++ map (λ e. e.to) l.edges) d) l.places) k v)) (edges_at l.edges l.by_end) (slice_index_or l.spans.items k s))
