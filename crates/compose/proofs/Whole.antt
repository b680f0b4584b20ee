-- The graph that is built is the site's, and a refusal is one of the site's graph.
use Rattle.std.proofs.Common.{◌≡◌, ◌+◌, ◌<◌, ◌≤◌, List, length, Ok, Err, inl, inr, refl, sym, ◌∙◌, subst, arith}
use Rattle.std.specs.Prelude.{Contains}
use Rattle.sd_value.specs.Names.{Name, Label}
use Rattle.sd_value.specs.Members.{Contains-nil}
use Rattle.sd_value.specs.AscendingLaws.{one_list}
use Rattle.sd_value.specs.Order.{bytes_cmp}
use Rattle.sd_value.specs.OrderLaws.{bytes_cmp-total, bytes_cmp-exact}
use Rattle.sd_value.specs.declared.Term.{Term}
use Rattle.graph_spec.specs.DataGraph.{DataGraph, IsWellFormed}
use Rattle.graph_spec.specs.Orders.{edge_cmp, edge_cmp-total, edge_cmp-exact, member_cmp, member_cmp-total, member_cmp-exact}
use Rattle.graph_spec.specs.Statement.{Statement, a_node, a_member, an_edge, graph_with}
use Rattle.graph_spec.specs.declared.Edge.{Edge}
use Rattle.graph_spec.specs.declared.Member.{Member}
use Rattle.page_spec.specs.Show.{address}
use Rattle.page_spec.specs.Site.{Site}
use Rattle.sd_graph.specs.Statement.{Building, IsBuilt, IsEmpty, IsStatedIn}
use Rattle.sd_graph.specs.Built.{well_formed_with, empty_built}
use Rattle.sd_graph.specs.declared.Limits.{Limits}
use Rattle.sd_graph.specs.declared.GraphRefusal.{GraphRefusal}
use Rattle.sd_graph.specs.declared.GraphRefusal.TheVariants.{TooManyNodes, TooManyEdges, NoMemory}
use Rattle.compose_spec.specs.Composed.{node_name, IsNodeOf, IsEdgeOf, IsMemberOf, IsSiteGraph}
use Rattle.compose.specs.Adding.{Says, Reaches, Gains, IsOver, AddsAll}
use Rattle.compose.specs.Listed.{IsListed, AnswersWithin}
use Rattle.compose.specs.Stated.{IsNodeStated, IsStated}
use Rattle.compose.proofs.Adding.{stated_cases, stated_kept}
use Rattle.compose.proofs.Lengths.{length_le}
use Rattle.compose.proofs.Said.{IsSaid, plain_said, said_by, nodes_said, rest_said, node_stated, edge_stated, member_stated}

pub empty_states : (G : DataGraph) → IsEmpty G → (x : Statement) → IsStatedIn G x → ⊥
empty_states G empty (a_node n) h = Contains-nil n (subst (λ (ns : List Name). Contains ns n) empty.0 h)
empty_states G empty (an_edge n l v) h = Contains-nil _
    (subst (λ (es : List Edge). Contains es (record { from = n; label = l; to = v })) empty.1 h)
empty_states G empty (a_member c n) h = Contains-nil _
    (subst (λ (ms : List Member). Contains ms (record { collection = c; node = n })) empty.2 h)

pub begun_built : (b : Building) → IsEmpty b.graph → IsBuilt b
begun_built b empty = empty_built b.limits b.graph.nodes b.graph.edges b.graph.members empty.0 empty.1 empty.2

-- a site has one graph
pub one_graph : (site : Site) (names : List Name) (G H : DataGraph) → IsSiteGraph site names G → IsSiteGraph site names
    H → G ≡ H
one_graph site names G H g h =
    let nodes = one_list bytes_cmp-total (IsNodeOf site names) G.nodes H.nodes g.nodes h.nodes in
    let edges = one_list edge_cmp-total (IsEdgeOf site) G.edges H.edges g.edges h.edges in
    let members = one_list member_cmp-total (IsMemberOf site) G.members H.members g.members h.members in
    λ i. record { nodes = nodes i; edges = edges i; members = members i }

-- a node is no edge too many
node_fits : (n : Name) (b : Building) → IsBuilt b → IsOver (a_node n) b TooManyEdges → ⊥
node_fits n b built over = omega (arith, over.1, built.within.1)

-- ---- a statement for which there is no room

module _ (site : Site) (names : List Name) (b : Building) (next : Statement) (built : IsBuilt b)
    (sound : (x : Statement) → IsStatedIn b.graph x → IsSaid site names x)
    (more : (x : Statement) → Says next x → IsSaid site names x) (said : IsSaid site names next) (H : DataGraph)
    (whole : IsSiteGraph site names H) where
  with_next : (x : Statement) → IsStatedIn (graph_with next b.graph) x → IsSaid site names x
  with_next x h = elim (stated_cases next x b.graph h) [ inl old ↦ sound x old | inr says ↦ more x says ]

  formed : IsWellFormed (graph_with next b.graph)
  formed = well_formed_with b.graph built.well_formed next (plain_said site names next said)

  nodes_le : length (graph_with next b.graph).nodes ≤ length H.nodes
  nodes_le =
      length_le bytes_cmp bytes_cmp-total bytes_cmp-exact (graph_with next b.graph).nodes H.nodes formed.nodes_ascend
      (λ n h. whole.nodes.complete n (with_next (a_node n) h))

  edges_le : length (graph_with next b.graph).edges ≤ length H.edges
  edges_le =
      length_le edge_cmp edge_cmp-total edge_cmp-exact (graph_with next b.graph).edges H.edges formed.edges_ascend
      (λ e h. whole.edges.complete e (with_next (an_edge e.from e.label e.to) h))

  members_le : length (graph_with next b.graph).members ≤ length H.members
  members_le =
      length_le member_cmp member_cmp-total member_cmp-exact (graph_with next b.graph).members H.members
      formed.members_ascend
      (λ m h. whole.members.complete m (with_next (a_member m.collection m.node) h))

  pub many_nodes : IsOver next b TooManyNodes → b.limits.nodes < length H.nodes
  many_nodes over = omega (arith, over, nodes_le)

  pub many_edges : ((n : Name) → IsNodeOf site names n → IsStatedIn (graph_with next b.graph) (a_node n))
      → IsOver next b TooManyEdges
      → (length H.nodes ≤ b.limits.nodes) × (b.limits.edges < length H.edges + length H.members)
  many_edges all over =
      let full : length H.nodes ≤ length (graph_with next b.graph).nodes =
      length_le bytes_cmp bytes_cmp-total bytes_cmp-exact H.nodes (graph_with next b.graph).nodes whole.nodes.ascending
      (λ n h. all n (whole.nodes.sound n h)) in
      (omega (arith, over.0, full), omega (arith, over.1, edges_le, members_le))

module _ (site : Site) (graph : DataGraph) (terms : List Term) (labels : List Label) (collections : List Name)
    (well : IsWellFormed graph) (listed : IsListed site graph terms labels collections)
    (start : Building) (empty : IsEmpty start.graph) where
  sound_from : (Q : Statement → Type 0) (b c : Building) → ((x : Statement) → Q x → IsSaid site graph.nodes x)
      → ((x : Statement) → IsStatedIn b.graph x → IsSaid site graph.nodes x)
      → Reaches Q b c → (x : Statement) → IsStatedIn c.graph x → IsSaid site graph.nodes x
  sound_from Q b c each before way x h = elim (way.only x h) [
    | inl old ↦ before x old
    | inr s ↦ said_by site graph terms labels collections well listed Q each x s
  ]

  at_start : (x : Statement) → IsStatedIn start.graph x → IsSaid site graph.nodes x
  at_start x h = absurd (empty_states start.graph empty x h)

  says_next : (next : Statement) → IsSaid site graph.nodes next → (x : Statement) → Says next x
      → IsSaid site graph.nodes x
  says_next next said x says =
      said_by site graph terms labels collections well listed (λ y. next ≡ y)
      (λ y e. subst (IsSaid site graph.nodes) e said) x (record { by = next; one = refl; says = says })

  each_node : (x : Statement) → IsNodeStated graph.nodes terms x → IsSaid site graph.nodes x
  each_node = nodes_said site graph terms labels collections well listed

  each_rest : (x : Statement) → IsStated site graph terms labels collections x → IsSaid site graph.nodes x
  each_rest = rest_said site graph terms labels collections well listed

  no_edge_refused : (b : Building) (next : Statement) → IsBuilt b → IsNodeStated graph.nodes terms next
      → IsOver next b TooManyEdges → ⊥
  no_edge_refused b next built (inl o) over = node_fits (node_name o.item) b built
      (subst (λ (s : Statement). IsOver s b TooManyEdges) (sym o.holds) over)
  no_edge_refused b next built (inr o) over = node_fits (address o.item) b built
      (subst (λ (s : Statement). IsOver s b TooManyEdges) (sym o.holds) over)

  -- a refusal among the nodes
  pub nodes_refused : (b : Building) (e : GraphRefusal) → AddsAll (IsNodeStated graph.nodes terms) start b (Err e)
      → (H : DataGraph) → IsSiteGraph site graph.nodes H → AnswersWithin start.limits H (Err e)
  nodes_refused b TooManyNodes s H whole =
      let said = each_node s.next s.one in
      subst (λ (l : Limits). l.nodes < length H.nodes) s.way.limits
      (many_nodes site graph.nodes s.reached s.next (s.way.built (begun_built start empty))
      (sound_from (IsNodeStated graph.nodes terms) start s.reached each_node at_start s.way) (says_next s.next said)
      said H whole s.over)
  nodes_refused b TooManyEdges s H whole = absurd
      (no_edge_refused s.reached s.next (s.way.built (begun_built start empty)) s.one s.over)
  nodes_refused b NoMemory s H whole = tt

  module _ (b : Building) (nodes : Gains (IsNodeStated graph.nodes terms) start b) where
    sound_nodes : (x : Statement) → IsStatedIn b.graph x → IsSaid site graph.nodes x
    sound_nodes = sound_from (IsNodeStated graph.nodes terms) start b each_node at_start nodes.way

    built_nodes : IsBuilt b
    built_nodes = nodes.way.built (begun_built start empty)

    all_nodes : (n : Name) → IsNodeOf site graph.nodes n → IsStatedIn b.graph (a_node n)
    all_nodes n h = nodes.stated (a_node n) (node_stated site graph terms labels collections well listed n h)

    -- a refusal among the edges and members
    pub rest_refused : (c : Building) (e : GraphRefusal) → AddsAll (IsStated site graph terms labels collections) b c
        (Err e)
        → (H : DataGraph) → IsSiteGraph site graph.nodes H → AnswersWithin start.limits H (Err e)
    rest_refused c TooManyNodes s H whole =
        let said = each_rest s.next s.one in
        subst (λ (l : Limits). l.nodes < length H.nodes) (s.way.limits ∙ nodes.way.limits)
        (many_nodes site graph.nodes s.reached s.next (s.way.built built_nodes)
        (sound_from (IsStated site graph terms labels collections) b s.reached each_rest sound_nodes s.way)
        (says_next s.next said) said H whole s.over)
    rest_refused c TooManyEdges s H whole =
        let said = each_rest s.next s.one in
        subst (λ (l : Limits). (length H.nodes ≤ l.nodes) × (l.edges < length H.edges + length H.members))
        (s.way.limits ∙ nodes.way.limits)
        (many_edges site graph.nodes s.reached s.next (s.way.built built_nodes)
        (sound_from (IsStated site graph terms labels collections) b s.reached each_rest sound_nodes s.way)
        (says_next s.next said) said H whole
        (λ n h. stated_kept s.next (a_node n) s.reached.graph (s.way.kept (a_node n) (all_nodes n h))) s.over)
    rest_refused c NoMemory s H whole = tt

    module _ (c : Building) (rest : Gains (IsStated site graph terms labels collections) b c) where
      sound_all : (x : Statement) → IsStatedIn c.graph x → IsSaid site graph.nodes x
      sound_all = sound_from (IsStated site graph terms labels collections) b c each_rest sound_nodes rest.way

      built_all : IsBuilt c
      built_all = rest.way.built built_nodes

      -- all statements make the site's graph
      pub graph_whole : IsSiteGraph site graph.nodes c.graph
      graph_whole = record {
        nodes = record {
          ascending = built_all.well_formed.nodes_ascend;
          sound = λ n h. sound_all (a_node n) h;
          complete = λ n h. rest.way.kept (a_node n) (all_nodes n h);
        };
        edges = record {
          ascending = built_all.well_formed.edges_ascend;
          sound = λ e h. sound_all (an_edge e.from e.label e.to) h;
          complete = λ e h. rest.stated (an_edge e.from e.label e.to)
              (edge_stated site graph terms labels collections well listed e h);
        };
        members = record {
          ascending = built_all.well_formed.members_ascend;
          sound = λ m h. sound_all (a_member m.collection m.node) h;
          complete = λ m h. rest.stated (a_member m.collection m.node)
              (member_stated site graph terms labels collections well listed m h);
        };
      }

      pub graph_answers : (H : DataGraph) → IsSiteGraph site graph.nodes H → AnswersWithin start.limits H (Ok c.graph)
      graph_answers H whole =
          let same = one_graph site graph.nodes c.graph H graph_whole whole in (
            same,
            subst (λ (l : Limits). length H.nodes ≤ l.nodes) (rest.way.limits ∙ nodes.way.limits)
                (subst (λ (G : DataGraph). length G.nodes ≤ c.limits.nodes) same built_all.within.0),
            subst (λ (l : Limits). length H.edges + length H.members ≤ l.edges) (rest.way.limits ∙ nodes.way.limits)
                (subst (λ (G : DataGraph). length G.edges + length G.members ≤ c.limits.edges) same built_all.within.1),
          )
