-- What is stated of a site's graph is so of the site, and all that is so is stated.
use Rattle.std.proofs.Common.{◌≡◌, List, inl, inr, refl, sym, ap, ◌∙◌, subst}
use Rattle.std.specs.Prelude.{Contains}
use Rattle.sd_value.specs.Names.{Name, Label}
use Rattle.sd_value.specs.declared.Datum.{Datum}
use Rattle.sd_value.specs.declared.Datum.TheVariants.{Int, Text, Url, File, Node}
use Rattle.sd_value.specs.declared.Term.{Term}
use Rattle.sd_value.specs.declared.Value.{Value}
use Rattle.sd_value.specs.declared.Value.TheVariants.{Data, Page}
use Rattle.graph_spec.specs.DataGraph.{DataGraph, IsWellFormed}
use Rattle.graph_spec.specs.Statement.{Statement, a_node, a_member, an_edge}
use Rattle.graph_spec.specs.declared.Edge.{Edge}
use Rattle.graph_spec.specs.declared.Member.{Member}
use Rattle.page_spec.specs.Show.{address}
use Rattle.page_spec.specs.Site.{Site}
use Rattle.sd_graph.specs.Statement.{IsData}
use Rattle.sd_graph.specs.Built.{IsPlain}
use Rattle.compose_spec.specs.Composed.{node_name, encoded, IsNodeOf, IsEdgeOf, IsMemberOf}
use Rattle.compose.specs.Adding.{Says, IsSaidBy}
use Rattle.compose.specs.Listed.{IsListed}
use Rattle.compose.specs.Stated.{link_from, IsNodeStated, IsDataStated, IsSiteStated, IsStated}

-- the statement is of the site's graph
abbrev pub IsSaid : Site → List Name → Statement → Type 0
IsSaid site names (a_node n) = IsNodeOf site names n
IsSaid site names (a_member c n) = IsMemberOf site (record { collection = c; node = n })
IsSaid site names (an_edge n l v) = IsEdgeOf site (record { from = n; label = l; to = v })

pub node_same : (a b : Name) → Node a ≡ Node b → a ≡ b
node_same a b h = cc

data_inside : (d e : Datum) → Data d ≡ Data e → d ≡ e
data_inside d e h = cc

pub plain_said : (site : Site) (names : List Name) (s : Statement) → IsSaid site names s → IsPlain s
plain_said site names (a_node n) h = tt
plain_said site names (a_member c n) h = tt
plain_said site names (an_edge n l v) h = subst IsData (sym h.4) tt

module _ (site : Site) (graph : DataGraph) (terms : List Term) (labels : List Label) (collections : List Name)
    (well : IsWellFormed graph) (listed : IsListed site graph terms labels collections) where
  -- a node or a page of the site, as a node of its graph
  value_node : (v : Value) (n : Name) → ((t : Term) → v ≡ Page t → site.has t)
      → ((k : Name) → v ≡ Data (Node k) → Contains graph.nodes k) → encoded v ≡ Node n → IsNodeOf site graph.nodes n
  value_node (Page t) n pages nodes h = inr (t, pages t refl, node_same (address t) n h)
  value_node (Data (Node k)) n pages nodes h = inl (k, nodes k refl, node_same (node_name k) n h)
  value_node (Data (Int i)) n pages nodes h = cc
  value_node (Data (Text s)) n pages nodes h = cc
  value_node (Data (Url s)) n pages nodes h = cc
  value_node (Data (File s)) n pages nodes h = cc

  member_node : (m : Member) → IsMemberOf site m → IsNodeOf site graph.nodes m.node
  member_node m h =
      value_node h.0 m.node
      (λ t e. listed.collected_in_site m.collection t (subst (site.collected m.collection) e h.1))
      (λ k e. listed.collected_declared m.collection k (subst (site.collected m.collection) e h.1))
      h.2

  start_node : (e : Edge) → IsEdgeOf site e → IsNodeOf site graph.nodes e.from
  start_node e h =
      value_node h.0 e.from
      (λ t is. listed.starts t e.label h.1 (subst (λ (u : Value). site.edge u e.label h.1) is h.2))
      (λ k is. well.starts_are_nodes (record { from = k; label = e.label; to = h.1 })
      (listed.from_nodes k e.label h.1 (subst (λ (u : Value). site.edge u e.label h.1) is h.2)))
      h.3

  end_node : (e : Edge) (n : Name) → IsEdgeOf site e → e.to ≡ Data (Node n) → IsNodeOf site graph.nodes n
  end_node e n h is =
      value_node h.1 n
      (λ t same. listed.ends_in_site h.0 e.label t (subst (site.edge h.0 e.label) same h.2))
      (λ k same. listed.ends_declared h.0 e.label k (subst (site.edge h.0 e.label) same h.2))
      (data_inside (encoded h.1) (Node n) (sym h.4 ∙ is))

  -- what a statement of the graph says is of the graph
  says_so : (s x : Statement) → Says s x → IsSaid site graph.nodes s → IsSaid site graph.nodes x
  says_so (a_node n) (a_node m) says h = subst (IsNodeOf site graph.nodes) says h
  says_so (a_member c n) (a_node m) says h = subst (IsNodeOf site graph.nodes) says
      (member_node (record { collection = c; node = n }) h)
  says_so (an_edge n l v) (a_node m) (inl e) h = subst (IsNodeOf site graph.nodes) e
      (start_node (record { from = n; label = l; to = v }) h)
  says_so (an_edge n l v) (a_node m) (inr e) h = end_node (record { from = n; label = l; to = v }) m h e
  says_so s (a_member c n) says h = subst (IsSaid site graph.nodes) says h
  says_so s (an_edge n l v) says h = subst (IsSaid site graph.nodes) says h

  pub said_by : (Q : Statement → Type 0) → ((x : Statement) → Q x → IsSaid site graph.nodes x) → (x : Statement)
      → IsSaidBy Q x → IsSaid site graph.nodes x
  said_by Q each x s = says_so s.by x s.says (each s.by s.one)

  -- ---- what is stated is so

  pub nodes_said : (s : Statement) → IsNodeStated graph.nodes terms s → IsSaid site graph.nodes s
  nodes_said s (inl o) = subst (IsSaid site graph.nodes) o.holds (inl (o.item, o.within, refl))
  nodes_said s (inr o) = subst (IsSaid site graph.nodes) o.holds (inr (o.item, listed.sound o.item o.within, refl))

  data_said : (s : Statement) → IsDataStated graph s → IsSaid site graph.nodes s
  data_said s (inl o) = subst (IsSaid site graph.nodes) o.holds (
    Data (Node o.item.from),
    o.item.to,
    listed.edges o.item
        o.within,
    refl,
    refl,
  )
  data_said s (inr o) = subst (IsSaid site graph.nodes) o.holds
      (Data (Node o.item.node), listed.members o.item o.within, refl)

  site_said : (s : Statement) → IsSiteStated site terms labels collections s → IsSaid site graph.nodes s
  site_said s (inl o) =
      let by = o.holds.holds in
      subst (IsSaid site graph.nodes) by.says (Page o.item, by.end, by.linked, refl, refl)
  site_said s (inr o) =
      let put = o.holds.put in
      subst (IsSaid site graph.nodes) put.says (o.holds.value, o.holds.collected, put.is)

  pub rest_said : (s : Statement) → IsStated site graph terms labels collections s → IsSaid site graph.nodes s
  rest_said s (inl h) = data_said s h
  rest_said s (inr h) = site_said s h

  -- ---- what is so is stated

  pub node_stated : (n : Name) → IsNodeOf site graph.nodes n → IsNodeStated graph.nodes terms (a_node n)
  node_stated n (inl (m, within, e)) = inl (record { item = m; within = within; holds = ap a_node e })
  node_stated n (inr (t, has, e)) = inr (record { item = t; within = listed.complete t has; holds = ap a_node e })

  edge_same : (a b : Name) (l : Label) (v : Value) (w : Value) → Node a ≡ Node b → w ≡ Data (encoded v)
      → link_from a l v ≡ an_edge b l w
  edge_same a b l v w e is = ap (λ (n : Name). an_edge n l (Data (encoded v))) (node_same a b e) ∙ ap (an_edge b l)
      (sym is)

  edge_from : (u v : Value) (e : Edge) → site.edge u e.label v → encoded u ≡ Node e.from → e.to ≡ Data (encoded v)
      → IsStated site graph terms labels collections (an_edge e.from e.label e.to)
  edge_from (Page t) v e linked from to =
      inr (inl (record {
        item = t;
        within = listed.complete t (listed.starts t e.label v linked);
        holds = record {
          item = e.label;
          within = listed.labelled t e.label v linked;
          holds = record { end = v; linked = linked; says = edge_same (address t) e.from e.label v e.to from to };
        };
      }))
  edge_from (Data (Node k)) v e linked from to =
      inl (inl (record {
        item = record { from = k; label = e.label; to = v };
        within = listed.from_nodes k e.label v linked;
        holds = edge_same (node_name k) e.from e.label v e.to from to;
      }))
  edge_from (Data (Int i)) v e linked from to = cc
  edge_from (Data (Text s)) v e linked from to = cc
  edge_from (Data (Url s)) v e linked from to = cc
  edge_from (Data (File s)) v e linked from to = cc

  pub edge_stated : (e : Edge) → IsEdgeOf site e → IsStated site graph terms labels collections
      (an_edge e.from e.label e.to)
  edge_stated e h = edge_from h.0 h.1 e h.2 h.3 h.4

  pub member_stated : (m : Member) → IsMemberOf site m → IsStated site graph terms labels collections
      (a_member m.collection m.node)
  member_stated m h = elim (listed.collected m.collection h.0 h.1) [
    | inl named ↦ inr (inr (record {
      item = m.collection;
      within = named;
      holds = record { value = h.0; collected = h.1; put = record { name = m.node; is = h.2; says = refl } };
    }))
    | inr known ↦ inl (inr (record {
      item = record { collection = m.collection; node = known.0 };
      within = known.1;
      holds = ap (a_member m.collection) (node_same (node_name known.0) m.node (sym (ap encoded known.2) ∙ h.2));
    }))
  ]
