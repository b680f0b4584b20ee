-- The graph of a query's site.
use Rattle.std.proofs.Common.{◌≡◌, List, [], ◌∷◌, inl, inr, refl, sym, subst}
use Rattle.std.specs.Prelude.{Contains}
use Rattle.sd_value.specs.Names.{Name}
use Rattle.sd_value.specs.Order.{bytes_cmp}
use Rattle.sd_value.specs.OrderLaws.{bytes_cmp-total, bytes_cmp-exact}
use Rattle.sd_value.specs.declared.Datum.{Datum}
use Rattle.sd_value.specs.declared.Datum.TheVariants.{Int, Text, Url, File, Node}
use Rattle.sd_value.specs.declared.Term.{Term}
use Rattle.sd_value.specs.declared.Value.TheVariants.{Data}
use Rattle.graph_spec.specs.DataGraph.{DataGraph}
use Rattle.graph_spec.specs.Orders.{edge_cmp, edge_cmp-total, edge_cmp-exact, member_cmp, member_cmp-total}
use Rattle.graph_spec.specs.Orders.{member_cmp-exact}
use Rattle.graph_spec.specs.declared.Edge.{Edge}
use Rattle.graph_spec.specs.declared.Member.{Member}
use Rattle.page_spec.specs.Show.{address}
use Rattle.site_spec.specs.Site.{Scope, InSite, SiteEdge, Collected}
use Rattle.weight_spec.specs.Site.{site_of}
use Rattle.compose_spec.specs.Composed.{node_name, encoded, IsNodeOf, IsEdgeOf, IsMemberOf, IsSiteGraph}
use Rattle.site_graphs.proofs.Lists.{AllOf, all_none, all_one, all_in, all_as, all_either, all_from}
use Rattle.site_graphs.proofs.Ascending.{all_ascending}
use Rattle.site_graphs.proofs.Sites.{Joint, Named, all_site_terms, all_edges, all_collected}

-- ---- what is in the graph

all_names : (d : Datum) → AllOf (λ (n : Name). d ≡ Node n)
all_names (Node m) = all_one m (λ (n : Name). Node m ≡ Node n) refl (λ n e. cc)
all_names (Int i) = all_none (λ (n : Name). Int i ≡ Node n) (λ n e. cc)
all_names (Text s) = all_none (λ (n : Name). Text s ≡ Node n) (λ n e. cc)
all_names (Url s) = all_none (λ (n : Name). Url s ≡ Node n) (λ n e. cc)
all_names (File s) = all_none (λ (n : Name). File s ≡ Node n) (λ n e. cc)

module _ (G : DataGraph) (q : Scope) where
  all_nodes : AllOf (IsNodeOf (site_of G q) G.nodes)
  all_nodes =
      all_either (λ (n : Name). (m : Name) × Contains G.nodes m × (node_name m ≡ n))
      (λ (n : Name). (t : Term) × InSite G q t × (address t ≡ n))
      (all_from (Contains G.nodes) (λ (m : Name) (n : Name). node_name m ≡ n) (all_in G.nodes)
      (λ m. all_one (node_name m) (λ (n : Name). node_name m ≡ n) refl (λ n e. e)))
      (all_from (InSite G q) (λ (t : Term) (n : Name). address t ≡ n) (all_site_terms G q)
      (λ t. all_one (address t) (λ (n : Name). address t ≡ n) refl (λ n e. e)))

  abbrev edge_at : Joint → Name → Edge
  edge_at j n = record { from = n; label = j.label; to = Data (encoded j.to) }

  all_edges_of : AllOf (IsEdgeOf (site_of G q))
  all_edges_of =
      all_as (λ (e : Edge). (j : Joint) × SiteEdge G q j.from j.label j.to
      × ((n : Name) × (encoded j.from ≡ Node n) × (edge_at j n ≡ e))) (IsEdgeOf (site_of G q))
      (λ e h. subst (IsEdgeOf (site_of G q)) h.2.2 (h.0.from, h.0.to, h.1, h.2.1, refl))
      (λ e h. (
        record { from = h.0; label = e.label; to = h.1 },
        h.2,
        (e.from, h.3, (λ i. record { from = e.from; label = e.label; to = sym h.4 i })),
      ))
      (all_from (λ (j : Joint). SiteEdge G q j.from j.label j.to) (λ (j : Joint) (e : Edge). (n : Name)
      × (encoded j.from ≡ Node n)
      × (edge_at j n ≡ e)) (all_edges G q)
      (λ j. all_from (λ (n : Name). encoded j.from ≡ Node n) (λ (n : Name) (e : Edge). edge_at j n ≡ e)
      (all_names (encoded j.from))
      (λ n. all_one (edge_at j n) (λ e. edge_at j n ≡ e) refl (λ e same. same))))

  abbrev member_at : Named → Name → Member
  member_at c n = record { collection = c.collection; node = n }

  all_members_of : AllOf (IsMemberOf (site_of G q))
  all_members_of =
      all_as (λ (m : Member). (c : Named) × Collected G q c.collection c.value
      × ((n : Name) × (encoded c.value ≡ Node n) × (member_at c n ≡ m))) (IsMemberOf (site_of G q))
      (λ m h. subst (IsMemberOf (site_of G q)) h.2.2 (h.0.value, h.1, h.2.1))
      (λ m h. (record { collection = m.collection; value = h.0 }, h.1, (m.node, h.2, refl)))
      (all_from (λ (c : Named). Collected G q c.collection c.value) (λ (c : Named) (m : Member). (n : Name)
      × (encoded c.value ≡ Node n)
      × (member_at c n ≡ m)) (all_collected G q)
      (λ c. all_from (λ (n : Name). encoded c.value ≡ Node n) (λ (n : Name) (m : Member). member_at c n ≡ m)
      (all_names (encoded c.value))
      (λ n. all_one (member_at c n) (λ m. member_at c n ≡ m) refl (λ m same. same))))

  pub site_graph_of : (whole : DataGraph) × IsSiteGraph (site_of G q) G.nodes whole
  site_graph_of =
      let nodes = all_ascending bytes_cmp bytes_cmp-total bytes_cmp-exact (IsNodeOf (site_of G q) G.nodes) all_nodes in
      let edges = all_ascending edge_cmp edge_cmp-total edge_cmp-exact (IsEdgeOf (site_of G q)) all_edges_of in
      let members = all_ascending member_cmp member_cmp-total member_cmp-exact (IsMemberOf (site_of G q))
      all_members_of in (
        record { nodes = nodes.0; edges = edges.0; members = members.0 },
        record
            { nodes = nodes.1; edges = edges.1; members = members.1 },
      )
