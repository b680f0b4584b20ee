-- What the ranks of a graph's values and labels make of it.
use Rattle.std.specs.Prelude.{◌≡◌, ◌<◌, ◌++◌, ℕ, zero, suc, ◌+◌, ◌-◌, List, [], ◌∷◌, take, drop, map, length, All}
use Rattle.std.proofs.Common.{arith, refl, sym, ap, subst}
use Rattle.std.proofs.lemmas.List.{length-map, length-append, length-drop, take_all}
use Rattle.sd_value.specs.Ascending.{ListsExactly}
use Rattle.sd_value.specs.AscendingLaws.{listed_as}
use Rattle.sd_value.specs.Order.{bytes_cmp, value_cmp}
use Rattle.sd_value.specs.OrderLaws.{bytes_cmp-total, value_cmp-total}
use Rattle.graph_spec.specs.DataGraph.{DataGraph, Name, node, IsWellFormed}
use Rattle.graph_spec.specs.declared.Edge.{Edge}
use Rattle.edge_queries.specs.Ordered.{by_end_cmp, by_label_cmp}
use Rattle.edge_queries.specs.Contents.{IsStored, values-sound, values-complete, labels-sound, labels-complete}
use Rattle.index_store.specs.Indexed.{edge_at, edges_at, value_at, all_values, IsOrder, AreSpans}
use Rattle.index_store.specs.declared.spans.Span.{Span}
use Rattle.sd_value.specs.declared.Value.{Value}
use Rattle.edge_queries.specs.Places.{at_end}
use Rattle.index_store.specs.Ranks.{item_at, rank_cmp, AreRanks, AreOrderedAs}
use Rattle.index_store.proofs.RankLaws.{labelled_order}
use Rattle.index_store.proofs.KeyedLaws.{ordered, ordered_rest, ranked_lists}

label_is : (es : List Edge) (i : ℕ) → item_at (map (λ (e : Edge). e.label) es) [] i ≡ (edge_at es i).label
label_is [] i = refl
label_is (e ∷ es) zero = refl
label_is (e ∷ es) (suc i) = label_is es i

-- the part of a list from a place on
pub rest_is : (n : ℕ) (ranks : List ℕ) → take (length ranks - n) (drop n ranks) ≡ drop n ranks
rest_is n ranks = take_all (length ranks - n) (drop n ranks) (omega (arith, length-drop n ranks))

pub values_long : (G : DataGraph) → length (all_values G) ≡ length G.nodes + length G.edges
values_long G = omega (arith, length-append (map node G.nodes) (map (λ (e : Edge). e.to) G.edges), length-map G.nodes node, length-map G.edges (λ (e : Edge). e.to))

-- what is kept, but for the spans
pub record AreOrders (G : DataGraph) (ends labelled values : List ℕ) (ns : List Name) : Type 0 where
  pub stored : IsStored G (map (value_at G) values) ns
  pub fits : All (λ i. i < length G.nodes + length G.edges) values
  pub by_end : IsOrder by_end_cmp G.edges ends
  pub by_label : IsOrder by_label_cmp G.edges labelled

module _ (G : DataGraph) (well : IsWellFormed G) (values ranks firsts label_ranks : List ℕ)
    (vals : AreRanks value_cmp (all_values G) values ranks) (labs : AreRanks bytes_cmp (map (λ (e : Edge). e.label) G.edges) firsts label_ranks) where
  -- there is a rank for each end
  pub ends_long : length (take (length ranks - length G.nodes) (drop (length G.nodes) ranks)) ≡ length label_ranks
  ends_long = omega (arith, ap length (rest_is (length G.nodes) ranks), length-drop (length G.nodes) ranks, vals.counted, values_long G, labs.counted, length-map G.edges (λ (e : Edge). e.label))

  pub index_is : (by_label by_end : List ℕ) (labels : List Name) → labels ≡ map (λ i. (edge_at G.edges i).label) firsts
      → ListsExactly (rank_cmp label_ranks) (λ i. i < length label_ranks) by_label
      → ((es : List Edge) → IsOrder by_label_cmp es by_label → AreOrderedAs value_cmp (map (λ (e : Edge). e.to) es) (take (length ranks - length G.nodes) (drop (length G.nodes) ranks)) → IsOrder by_end_cmp es by_end)
      → AreOrders G by_end by_label values labels
  index_is by_label by_end labels are sorted ends = record {
    stored = record {
      well_formed = well;
      values = listed_as (ranked_lists value_cmp-total (node []) (all_values G) values ranks vals) (λ v h. values-sound G well v h) (λ v h. values-complete G v h);
      labels = subst (ListsExactly bytes_cmp _) (sym are)
          (listed_as (subst (ListsExactly bytes_cmp _) (λ k. map (λ i. label_is G.edges i k) firsts) (ranked_lists bytes_cmp-total [] (map (λ (e : Edge). e.label) G.edges) firsts label_ranks labs)) (λ l h. labels-sound G l h) (λ l h. labels-complete G l h));
    };
    fits = subst (λ n. All (λ i. i < n) values) (values_long G) vals.fits;
    by_end = ends G.edges order rest;
    by_label = order;
  }
    where
      order : IsOrder by_label_cmp G.edges by_label
      order = labelled_order G.edges label_ranks by_label well.edges_ascend (ordered bytes_cmp (map (λ (e : Edge). e.label) G.edges) firsts label_ranks labs) sorted

      rest : AreOrderedAs value_cmp (map (λ (e : Edge). e.to) G.edges) (take (length ranks - length G.nodes) (drop (length G.nodes) ranks))
      rest = subst (AreOrderedAs value_cmp (map (λ (e : Edge). e.to) G.edges)) (sym (rest_is (length G.nodes) ranks))
          (subst (λ n. AreOrderedAs value_cmp (map (λ (e : Edge). e.to) G.edges) (drop n ranks)) (length-map G.nodes node)
          (ordered_rest value_cmp (map node G.nodes) (map (λ (e : Edge). e.to) G.edges) ranks (ordered value_cmp (all_values G) values ranks vals)))

-- the spans of the edges to each value, by what the lists are
pub spans_of : (G : DataGraph) (es : List Edge) (nodes : List Value) (values places ends order : List ℕ) (spans : List Span)
    → es ≡ G.edges → nodes ≡ map node G.nodes → places ≡ values → order ≡ ends
    → AreSpans at_end (map (item_at (nodes ++ map (λ (e : Edge). e.to) es) (node [])) places) (edges_at es order) spans
    → AreSpans at_end (map (value_at G) values) (edges_at G.edges ends) spans
spans_of G es nodes values places ends order spans e n p o =
    subst (λ (vs : List Value × List Edge). AreSpans at_end vs.0 vs.1 spans) (λ i. (map (item_at (n i ++ map (λ (e : Edge). e.to) (e i)) (node [])) (p i), edges_at (e i) (o i)))
