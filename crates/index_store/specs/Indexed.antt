-- What an indexed store keeps beside its graph: the positions of its edges in two more orders.
use Rattle.std.specs.Prelude.{◌≡◌, ◌<◌, ◌≤◌, ℕ, ◌+◌, ◌-◌, ◌++◌, List, [], map, length, take}
use Rattle.std.specs.Prelude.{drop, slice_index, slice_index_or, nat_lt, cond, All, Contains}
use Rattle.std.specs.declared.cmp.Ordering.{Ordering}
use Rattle.std.specs.declared.cmp.Ordering.TheVariants.{Less}
use Rattle.sd_value.specs.Ascending.{ListsExactly}
use Rattle.sd_value.specs.declared.Datum.TheVariants.{Node}
use Rattle.sd_value.specs.declared.Value.{Value}
use Rattle.sd_value.specs.declared.Value.TheVariants.{Data, Page}
use Rattle.graph_spec.specs.DataGraph.{DataGraph, Name, node}
use Rattle.graph_spec.specs.declared.Edge.{Edge}
use Rattle.edge_queries.specs.Ordered.{by_end_cmp, by_label_cmp}
use Rattle.edge_queries.specs.Contents.{IsStored}
use Rattle.edge_queries.specs.Places.{at_start, at_end, at_label, at_collection}
use Rattle.list_lookup.specs.Picked.{in_place}
use Rattle.index_store.specs.declared.spans.Span.{Span}

-- the edge at a position. No list here has a position past its end
abbrev pub edge_at : List Edge → ℕ → Edge
edge_at es i = slice_index_or es i (record { from = []; label = []; to = node [] })

-- the edges at these positions
abbrev pub edges_at : List Edge → List ℕ → List Edge
edges_at es positions = map (edge_at es) positions

-- the positions of all edges, in an order
pub record IsOrder (R : Edge → Edge → Ordering) (es : List Edge) (positions : List ℕ) : Type 0 where
  pub fits : All (λ i. i < length es) positions
  pub lists : ListsExactly R (Contains es) (edges_at es positions)

-- the value is one of these nodes
abbrev pub IsNodeOf : List Name → Value → Type 0
IsNodeOf ns (Data (Node n)) = Contains ns n
IsNodeOf ns (Data d) = ⊥
IsNodeOf ns (Page p) = ⊥

-- the nodes as values, and then the edges' ends
abbrev pub all_values : DataGraph → List Value
all_values G = map node G.nodes ++ map (λ e. e.to) G.edges

-- the value at a place among these. No list here has a place past its end
abbrev pub value_at : DataGraph → ℕ → Value
value_at G i = slice_index_or (all_values G) i (node [])

-- the value is the one of that number among those at the places
abbrev pub IsAt : DataGraph → List ℕ → Value → ℕ → Type 0
IsAt G places v number = (number < length places) × (value_at G (slice_index places number) ≡ v)

-- the span is that of what lies in the place
pub record IsSpanOf {X : Type 0} (place : X → Ordering) (xs : List X) (span : Span) : Type 0 where
  pub up : span.start ≤ span.end
  pub fits : span.end ≤ length xs
  pub exact : take (span.end - span.start) (drop span.start xs) ≡ in_place place xs

-- for each key, the span of what lies in its place
pub record AreSpans {K X : Type 0} (place : K → X → Ordering) (ks : List K) (xs : List X)
    (spans : List Span) : Type 0 where
  pub counted : length spans ≡ length ks
  pub each : (i : ℕ) (k : K) (s : Span) → i < length ks
      → IsSpanOf (place (slice_index_or ks i k)) xs (slice_index_or spans i s)

-- the positions of the edges in a place, in an order
pub record ArePicked (R : Edge → Edge → Ordering) (es : List Edge) (place : Edge → Ordering)
    (positions : List ℕ) : Type 0 where
  pub all : List ℕ
  pub order : IsOrder R es all
  pub fits : All (λ i. i < length es) positions
  pub exact : edges_at es positions ≡ in_place place (edges_at es all)

-- the spans of the edges from each node, to each value and of each label, and of each
-- collection's members
pub record AreKept (G : DataGraph) (ends labelled values : List ℕ) (ns cs : List Name)
    (from to of_label of_collection : List Span) : Type 0 where
  pub from_each : AreSpans at_start (map node G.nodes) G.edges from
  pub to_each : AreSpans at_end (map (value_at G) values) (edges_at G.edges ends) to
  pub label_each : AreSpans at_label ns (edges_at G.edges labelled) of_label
  pub collection_each : AreSpans at_collection cs G.members of_collection

-- all that an indexed store keeps
pub record IsIndexed (G : DataGraph) (ends labelled values : List ℕ) (ns cs : List Name)
    (from to of_label of_collection : List Span) : Type 0 where
  pub stored : IsStored G (map (value_at G) values) ns
  pub fits : All (λ i. i < length G.nodes + length G.edges) values
  pub by_end : IsOrder by_end_cmp G.edges ends
  pub by_label : IsOrder by_label_cmp G.edges labelled
  pub spans : AreKept G ends labelled values ns cs from to of_label of_collection

-- where the edge at a position lies beside what is asked for
abbrev pub place_at : (Edge → Ordering) → List Edge → ℕ → Ordering
place_at place es i = cond (nat_lt i (length es)) (place (edge_at es i)) Less
