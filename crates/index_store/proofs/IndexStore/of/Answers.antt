use Rattle.std.proofs.Common.{◌≡◌, arith, ap, sym, ◌∙◌, subst, List, ℕ, map, length, ◌++◌, take, drop}
use Rattle.std.specs.Prelude.{◌<◌, ◌+◌, ◌-◌, [], All}
use Rattle.std.proofs.lemmas.List.{length-map}
use Rattle.sd_value.specs.Ascending.{ListsExactly}
use Rattle.sd_value.specs.Order.{bytes_cmp, value_cmp}
use Rattle.sd_value.specs.declared.Value.{Value}
use Rattle.graph_spec.specs.DataGraph.{Name, node}
use Rattle.graph_spec.specs.declared.Edge.{Edge}
use Rattle.graph_spec.specs.declared.Member.{Member}
use Rattle.edge_queries.specs.Ordered.{by_label_cmp}
use Rattle.graph_spec.specs.Orders.{edge_cmp, member_cmp}
use Rattle.std.specs.List.Sorted.{IsStrictlySortedBy}
use Rattle.edge_queries.specs.Ordered.{by_end_cmp}
use Rattle.edge_queries.specs.Places.{at_start, at_label, at_collection}
use Rattle.index_store.specs.Indexed.{edge_at, edges_at, IsOrder, AreSpans}
use Rattle.index_store.specs.Ranks.{rank_cmp, AreRanks}
use Rattle.index_store.proofs.RankLaws.{All-from_contained}
use Rattle.index_store.proofs.IndexLaws.{ends_long, index_is, spans_of}
use Rattle.index_store.proofs.IndexStore.of.Goals as goal

pub by_end-requires-clause-fits : goal.by_end-requires-clause-fits
by_end-requires-clause-fits c =
    let G = c.args.graph in
    let well = c.edges-edges.ensures.well_formed in
    let nodes_are = c.as_slice-3.ensures.value ∙ c.in_ok-node_values.ensures ∙ ap (map node) c.nodes-nodes.ensures.value in
    let vals = subst (λ (vs : List Value). AreRanks value_cmp vs c.in_ok-firsts.field-0.firsts.items c.in_ok-firsts.field-0.ranks.items) (λ i. nodes_are i ++ map (λ (e : Edge). e.to) (c.edges-edges.ensures.value i)) c.in_ok-firsts.ensures in
    let labs = subst (λ (es : List Edge). AreRanks bytes_cmp (map (λ (e : Edge). e.label) es) c.in_ok-label_ranks.label_ranks.firsts.items c.in_ok-label_ranks.label_ranks.ranks.items) c.edges-edges.ensures.value c.in_ok-label_ranks.ensures in
    let order = subst (λ (rs : List ℕ). ListsExactly (rank_cmp rs) (λ i. i < length rs) c.in_ok-by_label.by_label.items) c.as_slice-2.ensures.value c.in_ok-by_label.ensures.order in
    let ranks_are : c.as_slice-4.result.now ≡ c.in_ok-firsts.field-0.ranks.items = c.as_slice-4.ensures.value in
    let long = ends_long G well c.in_ok-firsts.field-0.firsts.items c.in_ok-firsts.field-0.ranks.items c.in_ok-label_ranks.label_ranks.firsts.items c.in_ok-label_ranks.label_ranks.ranks.items vals labs in
    subst (λ (ns : List ℕ). All (λ i. i < length (take (length c.as_slice-4.result.now - length c.nodes-nodes.result.now) (drop (length c.nodes-nodes.result.now) c.as_slice-4.result.now))) ns) (sym c.as_slice-5.ensures.value)
    (rw (ranks_are, c.nodes-nodes.ensures.value, long) (All-from_contained (λ i. i < length c.in_ok-label_ranks.label_ranks.ranks.items) c.in_ok-by_label.by_label.items (λ i h. order.sound i h)))

pub by_end-requires-clause-small : goal.by_end-requires-clause-small
by_end-requires-clause-small c =
    let G = c.args.graph in
    let well = c.edges-edges.ensures.well_formed in
    let nodes_are = c.as_slice-3.ensures.value ∙ c.in_ok-node_values.ensures ∙ ap (map node) c.nodes-nodes.ensures.value in
    let vals = subst (λ (vs : List Value). AreRanks value_cmp vs c.in_ok-firsts.field-0.firsts.items c.in_ok-firsts.field-0.ranks.items) (λ i. nodes_are i ++ map (λ (e : Edge). e.to) (c.edges-edges.ensures.value i)) c.in_ok-firsts.ensures in
    let labs = subst (λ (es : List Edge). AreRanks bytes_cmp (map (λ (e : Edge). e.label) es) c.in_ok-label_ranks.label_ranks.firsts.items c.in_ok-label_ranks.label_ranks.ranks.items) c.edges-edges.ensures.value c.in_ok-label_ranks.ensures in
    let order = subst (λ (rs : List ℕ). ListsExactly (rank_cmp rs) (λ i. i < length rs) c.in_ok-by_label.by_label.items) c.as_slice-2.ensures.value c.in_ok-by_label.ensures.order in
    let ranks_are : c.as_slice-4.result.now ≡ c.in_ok-firsts.field-0.ranks.items = c.as_slice-4.ensures.value in
    omega (arith, c.in_ok-by_label.ensures.short, ap length c.as_slice-2.ensures.value, labs.counted, length-map G.edges (λ (e : Edge). e.label), ap length c.edges-edges.ensures.value, ap length c.as_slice-5.ensures.value, c.member_pairs-members.ensures.within.1)

pub of-requires : goal.of-requires
of-requires c =
    let G = c.args.graph in
    let well = c.edges-edges.ensures.well_formed in
    let nodes_are = c.as_slice-3.ensures.value ∙ c.in_ok-node_values.ensures ∙ ap (map node) c.nodes-nodes.ensures.value in
    let vals = subst (λ (vs : List Value). AreRanks value_cmp vs c.in_ok-firsts.field-0.firsts.items c.in_ok-firsts.field-0.ranks.items) (λ i. nodes_are i ++ map (λ (e : Edge). e.to) (c.edges-edges.ensures.value i)) c.in_ok-firsts.ensures in
    let labs = subst (λ (es : List Edge). AreRanks bytes_cmp (map (λ (e : Edge). e.label) es) c.in_ok-label_ranks.label_ranks.firsts.items c.in_ok-label_ranks.label_ranks.ranks.items) c.edges-edges.ensures.value c.in_ok-label_ranks.ensures in
    let order = subst (λ (rs : List ℕ). ListsExactly (rank_cmp rs) (λ i. i < length rs) c.in_ok-by_label.by_label.items) c.as_slice-2.ensures.value c.in_ok-by_label.ensures.order in
    let ranks_are : c.as_slice-4.result.now ≡ c.in_ok-firsts.field-0.ranks.items = c.as_slice-4.ensures.value in
    let orders = index_is G well c.in_ok-firsts.field-0.firsts.items c.in_ok-firsts.field-0.ranks.items c.in_ok-label_ranks.label_ranks.firsts.items c.in_ok-label_ranks.label_ranks.ranks.items vals labs
    c.in_ok-by_label.by_label.items c.in_ok-by_end.by_end.items c.in_ok-labels.labels.items
    (c.in_ok-labels.ensures ∙ (λ k. map (λ i. (edge_at (c.edges-edges.ensures.value k) i).label) (c.as_slice.ensures.value k)))
    order
    (λ es labelled are. c.in_ok-by_end.ensures.order es (subst (IsOrder by_label_cmp es) (sym c.as_slice-5.ensures.value) labelled) (rw (ranks_are, c.nodes-nodes.ensures.value) are)) in
    let many = c.as_slice-nodes.ensures.value ∙ c.in_ok-node_values.ensures ∙ ap (map node) c.nodes-nodes.ensures.value in
    subst (All (λ i. i < length c.as_slice-nodes.result.now + length c.edges-edges.result.now)) (sym c.as_slice-6.ensures.value)
    (rw (many, length-map G.nodes node, c.edges-edges.ensures.value) orders.fits)

pub spans_from-requires : goal.spans_from-requires
spans_from-requires c = record {
  ascending = subst (IsStrictlySortedBy edge_cmp) (sym c.edges-edges.ensures.value) c.edges-edges.ensures.well_formed.edges_ascend;
  small = omega (arith, ap length c.edges-edges.ensures.value, c.member_pairs-members.ensures.within.1);
}

pub spans_to-requires-clause-places : goal.spans_to-requires-clause-places
spans_to-requires-clause-places c =
    let G = c.args.graph in
    let well = c.edges-edges.ensures.well_formed in
    let nodes_are = c.as_slice-3.ensures.value ∙ c.in_ok-node_values.ensures ∙ ap (map node) c.nodes-nodes.ensures.value in
    let vals = subst (λ (vs : List Value). AreRanks value_cmp vs c.in_ok-firsts.field-0.firsts.items c.in_ok-firsts.field-0.ranks.items) (λ i. nodes_are i ++ map (λ (e : Edge). e.to) (c.edges-edges.ensures.value i)) c.in_ok-firsts.ensures in
    let labs = subst (λ (es : List Edge). AreRanks bytes_cmp (map (λ (e : Edge). e.label) es) c.in_ok-label_ranks.label_ranks.firsts.items c.in_ok-label_ranks.label_ranks.ranks.items) c.edges-edges.ensures.value c.in_ok-label_ranks.ensures in
    let order = subst (λ (rs : List ℕ). ListsExactly (rank_cmp rs) (λ i. i < length rs) c.in_ok-by_label.by_label.items) c.as_slice-2.ensures.value c.in_ok-by_label.ensures.order in
    let ranks_are : c.as_slice-4.result.now ≡ c.in_ok-firsts.field-0.ranks.items = c.as_slice-4.ensures.value in
    let orders = index_is G well c.in_ok-firsts.field-0.firsts.items c.in_ok-firsts.field-0.ranks.items c.in_ok-label_ranks.label_ranks.firsts.items c.in_ok-label_ranks.label_ranks.ranks.items vals labs
    c.in_ok-by_label.by_label.items c.in_ok-by_end.by_end.items c.in_ok-labels.labels.items
    (c.in_ok-labels.ensures ∙ (λ k. map (λ i. (edge_at (c.edges-edges.ensures.value k) i).label) (c.as_slice.ensures.value k)))
    order
    (λ es labelled are. c.in_ok-by_end.ensures.order es (subst (IsOrder by_label_cmp es) (sym c.as_slice-5.ensures.value) labelled) (rw (ranks_are, c.nodes-nodes.ensures.value) are)) in
    let many = c.as_slice-nodes.ensures.value ∙ c.in_ok-node_values.ensures ∙ ap (map node) c.nodes-nodes.ensures.value in
    subst (All (λ i. i < length c.as_slice-nodes.result.now + length c.edges-edges.result.now)) (sym c.as_slice-7.ensures.value)
    (rw (many, length-map G.nodes node, c.edges-edges.ensures.value) orders.fits)

pub spans_to-requires-clause-order : goal.spans_to-requires-clause-order
spans_to-requires-clause-order c =
    let G = c.args.graph in
    let well = c.edges-edges.ensures.well_formed in
    let nodes_are = c.as_slice-3.ensures.value ∙ c.in_ok-node_values.ensures ∙ ap (map node) c.nodes-nodes.ensures.value in
    let vals = subst (λ (vs : List Value). AreRanks value_cmp vs c.in_ok-firsts.field-0.firsts.items c.in_ok-firsts.field-0.ranks.items) (λ i. nodes_are i ++ map (λ (e : Edge). e.to) (c.edges-edges.ensures.value i)) c.in_ok-firsts.ensures in
    let labs = subst (λ (es : List Edge). AreRanks bytes_cmp (map (λ (e : Edge). e.label) es) c.in_ok-label_ranks.label_ranks.firsts.items c.in_ok-label_ranks.label_ranks.ranks.items) c.edges-edges.ensures.value c.in_ok-label_ranks.ensures in
    let order = subst (λ (rs : List ℕ). ListsExactly (rank_cmp rs) (λ i. i < length rs) c.in_ok-by_label.by_label.items) c.as_slice-2.ensures.value c.in_ok-by_label.ensures.order in
    let ranks_are : c.as_slice-4.result.now ≡ c.in_ok-firsts.field-0.ranks.items = c.as_slice-4.ensures.value in
    let orders = index_is G well c.in_ok-firsts.field-0.firsts.items c.in_ok-firsts.field-0.ranks.items c.in_ok-label_ranks.label_ranks.firsts.items c.in_ok-label_ranks.label_ranks.ranks.items vals labs
    c.in_ok-by_label.by_label.items c.in_ok-by_end.by_end.items c.in_ok-labels.labels.items
    (c.in_ok-labels.ensures ∙ (λ k. map (λ i. (edge_at (c.edges-edges.ensures.value k) i).label) (c.as_slice.ensures.value k)))
    order
    (λ es labelled are. c.in_ok-by_end.ensures.order es (subst (IsOrder by_label_cmp es) (sym c.as_slice-5.ensures.value) labelled) (rw (ranks_are, c.nodes-nodes.ensures.value) are)) in
    subst (λ (es : List Edge). IsOrder by_end_cmp es c.as_slice-8.result.now) (sym c.edges-edges.ensures.value) (subst (IsOrder by_end_cmp G.edges) (sym c.as_slice-8.ensures.value) orders.by_end)

pub spans_to-requires-clause-small : goal.spans_to-requires-clause-small
spans_to-requires-clause-small c =
    let G = c.args.graph in
    let well = c.edges-edges.ensures.well_formed in
    let nodes_are = c.as_slice-3.ensures.value ∙ c.in_ok-node_values.ensures ∙ ap (map node) c.nodes-nodes.ensures.value in
    let vals = subst (λ (vs : List Value). AreRanks value_cmp vs c.in_ok-firsts.field-0.firsts.items c.in_ok-firsts.field-0.ranks.items) (λ i. nodes_are i ++ map (λ (e : Edge). e.to) (c.edges-edges.ensures.value i)) c.in_ok-firsts.ensures in
    let labs = subst (λ (es : List Edge). AreRanks bytes_cmp (map (λ (e : Edge). e.label) es) c.in_ok-label_ranks.label_ranks.firsts.items c.in_ok-label_ranks.label_ranks.ranks.items) c.edges-edges.ensures.value c.in_ok-label_ranks.ensures in
    let order = subst (λ (rs : List ℕ). ListsExactly (rank_cmp rs) (λ i. i < length rs) c.in_ok-by_label.by_label.items) c.as_slice-2.ensures.value c.in_ok-by_label.ensures.order in
    let ranks_are : c.as_slice-4.result.now ≡ c.in_ok-firsts.field-0.ranks.items = c.as_slice-4.ensures.value in
    omega (arith, ap length c.as_slice-8.ensures.value, c.in_ok-by_end.ensures.short, c.in_ok-by_label.ensures.short, ap length c.as_slice-2.ensures.value, labs.counted, length-map G.edges (λ (e : Edge). e.label), ap length c.edges-edges.ensures.value, ap length c.as_slice-5.ensures.value, c.member_pairs-members.ensures.within.1)

pub spans_labelled-requires-clause-order : goal.spans_labelled-requires-clause-order
spans_labelled-requires-clause-order c =
    let G = c.args.graph in
    let well = c.edges-edges.ensures.well_formed in
    let nodes_are = c.as_slice-3.ensures.value ∙ c.in_ok-node_values.ensures ∙ ap (map node) c.nodes-nodes.ensures.value in
    let vals = subst (λ (vs : List Value). AreRanks value_cmp vs c.in_ok-firsts.field-0.firsts.items c.in_ok-firsts.field-0.ranks.items) (λ i. nodes_are i ++ map (λ (e : Edge). e.to) (c.edges-edges.ensures.value i)) c.in_ok-firsts.ensures in
    let labs = subst (λ (es : List Edge). AreRanks bytes_cmp (map (λ (e : Edge). e.label) es) c.in_ok-label_ranks.label_ranks.firsts.items c.in_ok-label_ranks.label_ranks.ranks.items) c.edges-edges.ensures.value c.in_ok-label_ranks.ensures in
    let order = subst (λ (rs : List ℕ). ListsExactly (rank_cmp rs) (λ i. i < length rs) c.in_ok-by_label.by_label.items) c.as_slice-2.ensures.value c.in_ok-by_label.ensures.order in
    let ranks_are : c.as_slice-4.result.now ≡ c.in_ok-firsts.field-0.ranks.items = c.as_slice-4.ensures.value in
    let orders = index_is G well c.in_ok-firsts.field-0.firsts.items c.in_ok-firsts.field-0.ranks.items c.in_ok-label_ranks.label_ranks.firsts.items c.in_ok-label_ranks.label_ranks.ranks.items vals labs
    c.in_ok-by_label.by_label.items c.in_ok-by_end.by_end.items c.in_ok-labels.labels.items
    (c.in_ok-labels.ensures ∙ (λ k. map (λ i. (edge_at (c.edges-edges.ensures.value k) i).label) (c.as_slice.ensures.value k)))
    order
    (λ es labelled are. c.in_ok-by_end.ensures.order es (subst (IsOrder by_label_cmp es) (sym c.as_slice-5.ensures.value) labelled) (rw (ranks_are, c.nodes-nodes.ensures.value) are)) in
    subst (λ (es : List Edge). IsOrder by_label_cmp es c.as_slice-10.result.now) (sym c.edges-edges.ensures.value) (subst (IsOrder by_label_cmp G.edges) (sym c.as_slice-10.ensures.value) orders.by_label)

pub spans_labelled-requires-clause-small : goal.spans_labelled-requires-clause-small
spans_labelled-requires-clause-small c =
    let G = c.args.graph in
    let well = c.edges-edges.ensures.well_formed in
    let nodes_are = c.as_slice-3.ensures.value ∙ c.in_ok-node_values.ensures ∙ ap (map node) c.nodes-nodes.ensures.value in
    let vals = subst (λ (vs : List Value). AreRanks value_cmp vs c.in_ok-firsts.field-0.firsts.items c.in_ok-firsts.field-0.ranks.items) (λ i. nodes_are i ++ map (λ (e : Edge). e.to) (c.edges-edges.ensures.value i)) c.in_ok-firsts.ensures in
    let labs = subst (λ (es : List Edge). AreRanks bytes_cmp (map (λ (e : Edge). e.label) es) c.in_ok-label_ranks.label_ranks.firsts.items c.in_ok-label_ranks.label_ranks.ranks.items) c.edges-edges.ensures.value c.in_ok-label_ranks.ensures in
    let order = subst (λ (rs : List ℕ). ListsExactly (rank_cmp rs) (λ i. i < length rs) c.in_ok-by_label.by_label.items) c.as_slice-2.ensures.value c.in_ok-by_label.ensures.order in
    let ranks_are : c.as_slice-4.result.now ≡ c.in_ok-firsts.field-0.ranks.items = c.as_slice-4.ensures.value in
    omega (arith, ap length c.as_slice-10.ensures.value, c.in_ok-by_label.ensures.short, ap length c.as_slice-2.ensures.value, labs.counted, length-map G.edges (λ (e : Edge). e.label), ap length c.edges-edges.ensures.value, c.member_pairs-members.ensures.within.1)

pub spans_collected-requires : goal.spans_collected-requires
spans_collected-requires c = record {
  ascending = subst (IsStrictlySortedBy member_cmp) (sym c.member_pairs-members.ensures.value) c.member_pairs-members.ensures.well_formed.members_ascend;
  small = omega (arith, ap length c.member_pairs-members.ensures.value, c.member_pairs-members.ensures.within.1);
}

pub invariant_of-result : goal.invariant_of-result
invariant_of-result c =
    let G = c.args.graph in
    let well = c.edges-edges.ensures.well_formed in
    let nodes_are = c.as_slice-3.ensures.value ∙ c.in_ok-node_values.ensures ∙ ap (map node) c.nodes-nodes.ensures.value in
    let vals = subst (λ (vs : List Value). AreRanks value_cmp vs c.in_ok-firsts.field-0.firsts.items c.in_ok-firsts.field-0.ranks.items) (λ i. nodes_are i ++ map (λ (e : Edge). e.to) (c.edges-edges.ensures.value i)) c.in_ok-firsts.ensures in
    let labs = subst (λ (es : List Edge). AreRanks bytes_cmp (map (λ (e : Edge). e.label) es) c.in_ok-label_ranks.label_ranks.firsts.items c.in_ok-label_ranks.label_ranks.ranks.items) c.edges-edges.ensures.value c.in_ok-label_ranks.ensures in
    let order = subst (λ (rs : List ℕ). ListsExactly (rank_cmp rs) (λ i. i < length rs) c.in_ok-by_label.by_label.items) c.as_slice-2.ensures.value c.in_ok-by_label.ensures.order in
    let ranks_are : c.as_slice-4.result.now ≡ c.in_ok-firsts.field-0.ranks.items = c.as_slice-4.ensures.value in
    let orders = index_is G well c.in_ok-firsts.field-0.firsts.items c.in_ok-firsts.field-0.ranks.items c.in_ok-label_ranks.label_ranks.firsts.items c.in_ok-label_ranks.label_ranks.ranks.items vals labs
    c.in_ok-by_label.by_label.items c.in_ok-by_end.by_end.items c.in_ok-labels.labels.items
    (c.in_ok-labels.ensures ∙ (λ k. map (λ i. (edge_at (c.edges-edges.ensures.value k) i).label) (c.as_slice.ensures.value k)))
    order
    (λ es labelled are. c.in_ok-by_end.ensures.order es (subst (IsOrder by_label_cmp es) (sym c.as_slice-5.ensures.value) labelled) (rw (ranks_are, c.nodes-nodes.ensures.value) are)) in
    let values = c.in_ok-firsts.field-0.firsts.items in
    let ends = c.in_ok-by_end.by_end.items in
    let many = c.as_slice-nodes.ensures.value ∙ c.in_ok-node_values.ensures ∙ ap (map node) c.nodes-nodes.ensures.value in
    record {
      stored = orders.stored;
      fits = orders.fits;
      by_end = orders.by_end;
      by_label = orders.by_label;
      spans = record {
        from_each = subst (λ (es : List Edge). AreSpans at_start (map node G.nodes) es c.in_ok-from.from.items) c.edges-edges.ensures.value
            (subst (λ (vs : List Value). AreSpans at_start vs c.edges-edges.result.now c.in_ok-from.from.items) many c.in_ok-from.ensures);
        to_each = spans_of G c.edges-edges.result.now c.as_slice-nodes.result.now values c.as_slice-7.result.now ends c.as_slice-8.result.now c.in_ok-to.to.items
            c.edges-edges.ensures.value many c.as_slice-7.ensures.value c.as_slice-8.ensures.value (c.in_ok-to.ensures (node []));
        label_each = subst (λ (ls : List Name). AreSpans at_label ls (edges_at G.edges c.in_ok-by_label.by_label.items) c.in_ok-of_label.of_label.items) c.as_slice-9.ensures.value
            (subst (λ (es : List Edge). AreSpans at_label c.as_slice-9.result.now (edges_at es c.in_ok-by_label.by_label.items) c.in_ok-of_label.of_label.items) c.edges-edges.ensures.value
            (subst (λ (ps : List ℕ). AreSpans at_label c.as_slice-9.result.now (edges_at c.edges-edges.result.now ps) c.in_ok-of_label.of_label.items) c.as_slice-10.ensures.value c.in_ok-of_label.ensures));
        collection_each = subst (λ (cs : List Name). AreSpans at_collection cs G.members c.in_ok-of_collection.of_collection.items) c.as_slice-11.ensures.value
            (subst (λ (ms : List Member). AreSpans at_collection c.as_slice-11.result.now ms c.in_ok-of_collection.of_collection.items) c.member_pairs-members.ensures.value c.in_ok-of_collection.ensures);
      };
    }
