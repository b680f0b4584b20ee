-- Putting in what a graph says makes that graph, and putting in edges between its nodes makes it with them.
use Rattle.std.proofs.Common.{◌≡◌, List, [], ◌∷◌, map, refl, sym, ap, ◌∙◌, subst}
use Rattle.std.specs.Prelude.{Contains, None, flat_map}
use Rattle.std.specs.List.Sorted.{IsStrictlySortedBy}
use Rattle.sd_value.specs.Names.{Name}
use Rattle.sd_value.specs.Order.{bytes_cmp}
use Rattle.sd_value.specs.OrderLaws.{bytes_cmp-total, bytes_cmp-exact}
use Rattle.sd_value.specs.Members.{Contains-here, Contains-there}
use Rattle.std.specs.declared.cmp.Ordering.{Ordering}
use Rattle.sd_value.specs.AscendingLaws.{lists_nothing}
use Rattle.sd_value.specs.declared.Datum.TheVariants.{Int, Text, Url, File, Node}
use Rattle.sd_value.specs.declared.Value.{Value}
use Rattle.sd_value.specs.declared.Value.TheVariants.{Data, Page}
use Rattle.graph_spec.specs.DataGraph.{DataGraph, IsEnd, IsWellFormed}
use Rattle.graph_spec.specs.Orders.{edge_cmp, edge_cmp-total, edge_cmp-exact, member_cmp, member_cmp-total, member_cmp-exact}
use Rattle.graph_spec.specs.Statement.{a_node, with_name, with_end, with_edge, with_member, graph_with, with_all}
use Rattle.graph_spec.specs.declared.Edge.{Edge}
use Rattle.graph_spec.specs.declared.Member.{Member}
use Rattle.sd_graph.specs.Statement.{Building, IsEmpty, IsData}
use Rattle.sd_graph.specs.Inserted.{inserted-known}
use Rattle.sd_graph.specs.Gathered.{insert_all}
use Rattle.sd_graph.specs.declared.Limits.{Limits}
use Rattle.sd_graph.proofs.Gathering.{inserted_as_listed, all_inserted-here}
use Rattle.order_spec.specs.Order.{Order, ordered, in_order, edges_along}
use Rattle.order_laws.proofs.Ordered.{well_formed as ordered_well}
use Rattle.graph_order.specs.Numbers.{numbers_from, edges_of_member, numbered_cmp}
use Rattle.graph_order.specs.declared.numbers.Numbered.{Numbered}
use Rattle.graph_order.proofs.ByNode.{in_order_too, inserted_members}
use Rattle.sd_value.specs.Ascending.{ListsExactly}
use Rattle.graph_order.specs.Adding.{building_of, stated_edge, stated_member}

-- the nodes of a statement are known
record AreKnown (names : List Name) (n : Name) (v : Value) : Type 0 where
  pub start : with_name n names ≡ names
  pub end : with_end v names ≡ names

end_known : (names : List Name) → IsStrictlySortedBy bytes_cmp names → (G : DataGraph) → G.nodes ≡ names → (v : Value) → IsEnd G v
    → with_end v names ≡ names
end_known names up G is (Data (Node n)) h = inserted-known bytes_cmp bytes_cmp-total n names up (subst (λ ns. Contains ns n) is h)
end_known names up G is (Data (Int n)) h = refl
end_known names up G is (Data (Text n)) h = refl
end_known names up G is (Data (Url n)) h = refl
end_known names up G is (Data (File n)) h = refl
end_known names up G is (Page p) h = absurd h

edge_known : (G : DataGraph) → IsWellFormed G → (e : Edge) → Contains G.edges e → AreKnown G.nodes e.from e.to
edge_known G w e h = record {
  start = inserted-known bytes_cmp bytes_cmp-total e.from G.nodes w.nodes_ascend (w.starts_are_nodes e h);
  end = end_known G.nodes w.nodes_ascend G refl e.to (w.ends_are_data e h);
}

pub plain_end : (G : DataGraph) (v : Value) → IsEnd G v → IsData v
plain_end G (Data d) h = tt
plain_end G (Page p) h = absurd h

-- ---- what lists of statements make

nodes_in : (G : DataGraph) (names : List Name)
    → with_all G (map a_node names) ≡ record { nodes = insert_all bytes_cmp G.nodes names; edges = G.edges; members = G.members }
nodes_in G [] = refl
nodes_in G (n ∷ names) = nodes_in (graph_with (a_node n) G) names

edges_in : (G : DataGraph) (es : List Edge) → ((e : Edge) → Contains es e → AreKnown G.nodes e.from e.to)
    → with_all G (map stated_edge es) ≡ record { nodes = G.nodes; edges = insert_all edge_cmp G.edges es; members = G.members }
edges_in G [] known = refl
edges_in G (e ∷ es) known =
    let k = known e (Contains-here e es) in
    let names : with_end e.to (with_name e.from G.nodes) ≡ G.nodes = ap (with_end e.to) k.start ∙ k.end in
    let next : DataGraph = record { nodes = G.nodes; edges = with_edge e G.edges; members = G.members } in
    let step : graph_with (stated_edge e) G ≡ next = λ i. record { nodes = names i; edges = with_edge e G.edges; members = G.members } in
    ap (λ (H : DataGraph). with_all H (map stated_edge es)) step
    ∙ edges_in next es (λ d h. known d (Contains-there e es d h))

members_in : (G : DataGraph) (ms : List Member) → ((m : Member) → Contains ms m → with_name m.node G.nodes ≡ G.nodes)
    → with_all G (map stated_member ms) ≡ record { nodes = G.nodes; edges = G.edges; members = insert_all member_cmp G.members ms }
members_in G [] known = refl
members_in G (m ∷ ms) known =
    let names : with_name m.node G.nodes ≡ G.nodes = known m (Contains-here m ms) in
    let next : DataGraph = record { nodes = G.nodes; edges = G.edges; members = with_member m G.members } in
    let step : graph_with (stated_member m) G ≡ next = λ i. record { nodes = names i; edges = G.edges; members = with_member m G.members } in
    ap (λ (H : DataGraph). with_all H (map stated_member ms)) step
    ∙ members_in next ms (λ d h. known d (Contains-there m ms d h))

-- ---- a graph that is put in

nothing_ascends : {X : Type 0} (R : X → X → Ordering) → IsStrictlySortedBy R []
nothing_ascends R = (lists_nothing R (λ x. ⊥) (λ x h. h)).ascending

module _ (limits : Limits) (G : DataGraph) (w : IsWellFormed G) where
  names_again : insert_all bytes_cmp [] G.nodes ≡ G.nodes
  names_again = sym (inserted_as_listed bytes_cmp-total bytes_cmp-exact [] G.nodes G.nodes refl (nothing_ascends bytes_cmp)
      (record { ascending = w.nodes_ascend; sound = λ x h. h; complete = λ x h. h }))

  edges_again : insert_all edge_cmp [] G.edges ≡ G.edges
  edges_again = sym (inserted_as_listed edge_cmp-total edge_cmp-exact [] G.edges G.edges refl (nothing_ascends edge_cmp)
      (record { ascending = w.edges_ascend; sound = λ x h. h; complete = λ x h. h }))

  members_again : insert_all member_cmp [] G.members ≡ G.members
  members_again = sym (inserted_as_listed member_cmp-total member_cmp-exact [] G.members G.members refl (nothing_ascends member_cmp)
      (record { ascending = w.members_ascend; sound = λ x h. h; complete = λ x h. h }))

  abbrev pub with_nodes : Building
  with_nodes = record { limits = limits; graph = record { nodes = G.nodes; edges = []; members = [] } }

  abbrev pub with_edges : Building
  with_edges = record { limits = limits; graph = record { nodes = G.nodes; edges = G.edges; members = [] } }

  abbrev pub with_members : Building
  with_members = record { limits = limits; graph = G }

  pub nodes_put : (b : Building) → b.limits ≡ limits → IsEmpty b.graph → building_of b (map a_node G.nodes) ≡ with_nodes
  nodes_put b same empty =
      let graph : with_all b.graph (map a_node G.nodes) ≡ record { nodes = G.nodes; edges = []; members = [] } =
      nodes_in b.graph G.nodes
      ∙ (λ i. record { nodes = insert_all bytes_cmp (empty.0 i) G.nodes; edges = empty.1 i; members = empty.2 i })
      ∙ (λ i. record { nodes = names_again i; edges = []; members = [] }) in
      λ i. record { limits = same i; graph = graph i }

  pub edges_put : building_of with_nodes (map stated_edge G.edges) ≡ with_edges
  edges_put =
      let graph = edges_in with_nodes.graph G.edges (λ e h. edge_known G w e h)
      ∙ (λ i. record { nodes = G.nodes; edges = edges_again i; members = [] }) in
      λ i. record { limits = limits; graph = graph i }

  pub members_put : building_of with_edges (map stated_member G.members) ≡ with_members
  members_put =
      let graph = members_in with_edges.graph G.members
      (λ m h. inserted-known bytes_cmp bytes_cmp-total m.node G.nodes w.nodes_ascend (w.members_are_nodes m h))
      ∙ (λ i. record { nodes = G.nodes; edges = G.edges; members = members_again i }) in
      λ i. record { limits = limits; graph = graph i }

  -- and the edges of an ORDER, of one node after another
  pub order_put : (f : Name → Name) (o : Order) (ns : List Name) → ns ≡ in_order f G o → (ms : List Numbered)
      → ListsExactly numbered_cmp (Contains (numbers_from 0 ns)) ms
      → building_of with_members (map stated_edge (flat_map (edges_of_member o.places ns) ms)) ≡ record { limits = limits; graph = ordered f o G }
  order_put f o ns named ms all =
      let same : insert_all edge_cmp G.edges (flat_map (edges_of_member o.places ns) ms) ≡ insert_all edge_cmp G.edges (edges_along o.places 0 None (in_order f G o)) =
      inserted_members o.places ns ms all edge_cmp-total edge_cmp-exact G.edges w.edges_ascend
      ∙ ap (λ (zs : List Name). insert_all edge_cmp G.edges (edges_along o.places 0 None zs)) named in
      let graph = edges_in G (flat_map (edges_of_member o.places ns) ms)
      (λ e h. edge_known (ordered f o G) (ordered_well f o G w) e
      (all_inserted-here edge_cmp-total edge_cmp-exact G.edges (edges_along o.places 0 None (in_order f G o)) e
      (subst (λ (zs : List Name). Contains (edges_along o.places 0 None zs) e) named (in_order_too o.places ns ms all e h))))
      ∙ (λ i. record { nodes = G.nodes; edges = same i; members = G.members }) in
      λ i. record { limits = limits; graph = graph i }
