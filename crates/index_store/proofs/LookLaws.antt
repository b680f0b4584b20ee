-- What the spans of an indexed store say of a value that is found among the distinct ones.
use Rattle.std.specs.Prelude.{◌≡◌, ◌<◌, ℕ, List, [], map, length, slice_index, slice_index_or, Contains, HoldsAt}
use Rattle.std.proofs.Common.{arith, sym, ◌∙◌, subst}
use Rattle.std.proofs.lemmas.List.{length-map, get_or-map, get_or_append_left}
use Rattle.sd_value.specs.declared.Value.{Value}
use Rattle.graph_spec.specs.DataGraph.{DataGraph, Name, node, IsValueOf}
use Rattle.graph_spec.specs.declared.Edge.{Edge}
use Rattle.sd_value.specs.Members.{Contains-mapped}
use Rattle.std.proofs.lemmas.List.Elements.{Contains-get_or}
use Rattle.edge_queries.specs.Places.{at_start, at_end, at_label, at_collection}
use Rattle.edge_queries.specs.Contents.{IsStored}
use Rattle.sd_value.specs.Order.{bytes_cmp}
use Rattle.sd_value.specs.OrderLaws.{bytes_cmp-exact}
use Rattle.std.specs.declared.cmp.Ordering.TheVariants.{Equal}
use Rattle.index_store.specs.declared.spans.Span.{Span}
use Rattle.index_store.specs.Indexed.{edges_at, value_at, IsAt, IsSpanOf, AreKept}

module _ (G : DataGraph) (ends labelled values : List ℕ) (ns cs : List Name) (from to of_label of_collection : List Span) (kept : AreKept G ends labelled values ns cs from to of_label of_collection) where
  pub from_span : (u : Value) (number : ℕ) (d : Span) → IsAt G values u number → slice_index values number < length from
      → IsSpanOf (at_start u) G.edges (slice_index_or from (slice_index values number) d)
  from_span u number d at l =
      let place = slice_index values number in
      let within : place < length (map node G.nodes) = subst (λ n. place < n) kept.from_each.counted l in
      let same : slice_index_or (map node G.nodes) place (node []) ≡ u = sym (get_or_append_left (map node G.nodes) (map (λ (e : Edge). e.to) G.edges) (node []) place within) ∙ at.1 in
      subst (λ w. IsSpanOf (at_start w) G.edges (slice_index_or from place d)) same (kept.from_each.each place (node []) d within)

  pub to_span : (v : Value) (number : ℕ) (span : Span) → IsAt G values v number → span ≡ slice_index_or to number span → IsSpanOf (at_end v) (edges_at G.edges ends) span
  to_span v number span at is =
      let within : number < length (map (value_at G) values) = omega (arith, at.0, length-map values (value_at G)) in
      let same : slice_index_or (map (value_at G) values) number (node []) ≡ v = get_or-map (value_at G) values number 0 (node []) at.0 ∙ at.1 in
      subst (λ w. IsSpanOf (at_end w) (edges_at G.edges ends) span) same
      (subst (IsSpanOf (at_end (slice_index_or (map (value_at G) values) number (node []))) (edges_at G.edges ends)) (sym is) (kept.to_each.each number (node []) span within))

  pub label_span : (label : Name) (number : ℕ) (span : Span) → number < length ns → HoldsAt (λ n. bytes_cmp n label ≡ Equal) ns number → span ≡ slice_index_or of_label number span → IsSpanOf (at_label label) (edges_at G.edges labelled) span
  label_span label number span within at is =
      let same : slice_index_or ns number [] ≡ label = bytes_cmp-exact (slice_index_or ns number []) label (at []) in
      subst (λ n. IsSpanOf (at_label n) (edges_at G.edges labelled) span) same
      (subst (IsSpanOf (at_label (slice_index_or ns number [])) (edges_at G.edges labelled)) (sym is) (kept.label_each.each number [] span within))

  pub collection_span : (collection : Name) (number : ℕ) (span : Span) → number < length cs → HoldsAt (λ n. bytes_cmp n collection ≡ Equal) cs number → span ≡ slice_index_or of_collection number span → IsSpanOf (at_collection collection) G.members span
  collection_span collection number span within at is =
      let same : slice_index_or cs number [] ≡ collection = bytes_cmp-exact (slice_index_or cs number []) collection (at []) in
      subst (λ n. IsSpanOf (at_collection n) G.members span) same
      (subst (IsSpanOf (at_collection (slice_index_or cs number [])) G.members) (sym is) (kept.collection_each.each number [] span within))

-- it is a value of the graph
pub found_value : (G : DataGraph) (values : List ℕ) (ns : List Name) → IsStored G (map (value_at G) values) ns → (v : Value) (number : ℕ) → IsAt G values v number → IsValueOf G v
found_value G values ns stored v number at = stored.values.sound v (subst (Contains (map (value_at G) values)) at.1 (Contains-mapped (value_at G) values (slice_index values number) (Contains-get_or values number 0 at.0)))
