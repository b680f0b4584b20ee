-- What is stated keeps a graph well formed.
use Rattle.std.specs.Prelude.{◌≡◌, ◌⊎◌, ◌≤◌, ◌+◌, ℕ, List, [], length, Contains, Result, Ok, Err, Some, ⊤, is_ok}
use Rattle.std.specs.Prelude.{is_err, false, if◌then◌else◌}
use Rattle.std.specs.List.Sorted.{IsStrictlySortedBy}
use Rattle.std.proofs.Common.{refl, sym, ap, subst, ◌∙◌, inl, inr, arith}
use Rattle.sd_value.specs.declared.Datum.TheVariants.{Node}
use Rattle.sd_value.specs.declared.Value.{Value}
use Rattle.sd_value.specs.declared.Value.TheVariants.{Data, Page}
use Rattle.sd_value.specs.Members.{Contains-nil}
use Rattle.sd_value.specs.Order.{bytes_cmp}
use Rattle.sd_value.specs.OrderLaws.{bytes_cmp-exact, bytes_cmp-total}
use Rattle.graph_spec.specs.DataGraph.{DataGraph, Name, IsWellFormed, IsEnd}
use Rattle.graph_spec.specs.Orders.{edge_cmp, edge_cmp-total, member_cmp, member_cmp-total}
use Rattle.graph_spec.specs.declared.Edge.{Edge}
use Rattle.graph_spec.specs.declared.Member.{Member}
use Rattle.sd_graph.specs.Statement.{Statement, a_node, a_member, an_edge, Building, building_with, graph_with}
use Rattle.sd_graph.specs.Statement.{with_name, with_end, Adds, Fits, IsData, IsBuilt, IsStatedIn, Refuses}
use Rattle.sd_graph.specs.Inserted.{inserted-there, inserted-cases, inserted-here, inserted-known, inserted-ascends}
use Rattle.sd_graph.specs.declared.Limits.{Limits}
use Rattle.sd_graph.specs.declared.GraphRefusal.{GraphRefusal}
use Rattle.sd_graph.specs.declared.GraphRefusal.TheVariants.{TooManyNodes, TooManyEdges, NoMemory}

-- more nodes take nothing away
grows : (G H : DataGraph) → ((n : Name) → Contains G.nodes n → Contains H.nodes n) → (v : Value)
    → IsEnd G v → IsEnd H v
grows G H more (Data (Node n)) h = more n h
grows G H more (Data d) h = tt
grows G H more (Page p) h = h

pub with_end-there : (v : Value) (names : List Name) (n : Name) → Contains names n
    → Contains (with_end v names) n
with_end-there (Data (Node m)) names n h = inserted-there bytes_cmp m names n h
with_end-there v names n h = h

-- an edge's end is one of the graph with that edge
end_stated : (G : DataGraph) (v : Value) (names : List Name) → IsData v
    → G.nodes ≡ with_end v names → IsEnd G v
end_stated G (Data (Node n)) names plain is =
    subst (λ l. Contains l n) (sym is) (inserted-here bytes_cmp bytes_cmp-exact n names)
end_stated G (Data d) names plain is = tt
end_stated G (Page p) names plain is = absurd plain

ends_with : (v : Value) (names : List Name) → IsStrictlySortedBy bytes_cmp names
    → IsStrictlySortedBy bytes_cmp (with_end v names)
ends_with (Data (Node n)) names up = inserted-ascends bytes_cmp bytes_cmp-total n names up
ends_with v names up = up

-- a statement that puts no page at an edge's end
abbrev pub IsPlain : Statement → Type 0
IsPlain (a_node n) = ⊤
IsPlain (a_member c n) = ⊤
IsPlain (an_edge n l v) = IsData v

-- the graph with a plain statement is well formed
module _ (G : DataGraph) (well : IsWellFormed G) where
  names_with : (n : Name) → IsStrictlySortedBy bytes_cmp (with_name n G.nodes)
  names_with n = inserted-ascends bytes_cmp bytes_cmp-total n G.nodes well.nodes_ascend

  pub well_formed_with : (s : Statement) → IsPlain s → IsWellFormed (graph_with s G)
  well_formed_with (a_node n) plain = record {
    nodes_ascend = names_with n;
    edges_ascend = well.edges_ascend;
    members_ascend = well.members_ascend;
    starts_are_nodes = λ e at. inserted-there bytes_cmp n G.nodes e.from
        (well.starts_are_nodes e at);
    ends_are_data = λ e at. grows G (graph_with (a_node n) G)
        (λ m h. inserted-there bytes_cmp n G.nodes m h) e.to (well.ends_are_data e at);
    members_are_nodes = λ m at. inserted-there bytes_cmp n G.nodes m.node
        (well.members_are_nodes m at);
  }
  well_formed_with (a_member c n) plain = record {
    nodes_ascend = names_with n;
    edges_ascend = well.edges_ascend;
    members_ascend = inserted-ascends member_cmp member_cmp-total (record {
      collection = c;
      node = n;
    }) G.members well.members_ascend;
    starts_are_nodes = λ e at. inserted-there bytes_cmp n G.nodes e.from
        (well.starts_are_nodes e at);
    ends_are_data = λ e at. grows G (graph_with (a_member c n) G)
        (λ m h. inserted-there bytes_cmp n G.nodes m h) e.to (well.ends_are_data e at);
    members_are_nodes = λ m at.
        elim (inserted-cases member_cmp (record { collection = c; node = n }) G.members m at) [
          | inl e ↦ subst (λ (x : Member). Contains (with_name n G.nodes) x.node) e
              (inserted-here bytes_cmp bytes_cmp-exact n G.nodes)
          | inr old ↦ inserted-there bytes_cmp n G.nodes m.node (well.members_are_nodes m old)
        ];
  }
  well_formed_with (an_edge n l v) plain = record {
    nodes_ascend = ends_with v (with_name n G.nodes) (names_with n);
    edges_ascend = inserted-ascends edge_cmp edge_cmp-total (record {
      from = n;
      label = l;
      to = v;
    }) G.edges well.edges_ascend;
    members_ascend = well.members_ascend;
    starts_are_nodes = λ e at.
        elim (inserted-cases edge_cmp (record { from = n; label = l; to = v }) G.edges e at) [
          | inl is ↦ subst (λ (x : Edge). Contains (with_end v (with_name n G.nodes)) x.from) is
              (with_end-there v _ n (inserted-here bytes_cmp bytes_cmp-exact n G.nodes))
          | inr old ↦ more e.from (well.starts_are_nodes e old)
        ];
    ends_are_data = λ e at.
        elim (inserted-cases edge_cmp (record { from = n; label = l; to = v }) G.edges e at) [
          | inl is ↦ subst (λ (x : Edge). IsEnd (graph_with (an_edge n l v) G) x.to) is
              (end_stated (graph_with (an_edge n l v) G) v (with_name n G.nodes) plain refl)
          | inr old ↦ grows G (graph_with (an_edge n l v) G) more e.to (well.ends_are_data e old)
        ];
    members_are_nodes = λ m at. more m.node (well.members_are_nodes m at);
  }
    where
      more : (m : Name) → Contains G.nodes m → Contains (with_end v (with_name n G.nodes)) m
      more m h = with_end-there v _ m (inserted-there bytes_cmp n G.nodes m h)

-- A builder's fields after adding: what is stated, or what was there.
pub record AnswersStatement (s : Statement) (b c : Building) (r : Result ⊤ GraphRefusal) : Type 0 where
  pub limits : c.limits ≡ b.limits
  pub nodes : c.graph.nodes ≡ (if is_ok r then (graph_with s b.graph).nodes else b.graph.nodes)
  pub edges : c.graph.edges ≡ (if is_ok r then (graph_with s b.graph).edges else b.graph.edges)
  pub members : c.graph.members
      ≡ (if is_ok r then (graph_with s b.graph).members else b.graph.members)
  pub fits : Fits b.limits (length (graph_with s b.graph).nodes)
      (length (graph_with s b.graph).edges + length (graph_with s b.graph).members) r

pub same_building : (b c : Building) → c.limits ≡ b.limits → c.graph.nodes ≡ b.graph.nodes
    → c.graph.edges ≡ b.graph.edges → c.graph.members ≡ b.graph.members → c ≡ b
same_building b c limits nodes edges members =
    λ i. record {
      limits = limits i;
      graph = record { nodes = nodes i; edges = edges i; members = members i };
    }

pub Adds-from_answer : (s : Statement) (b c : Building) (r : Result ⊤ GraphRefusal)
    → AnswersStatement s b c r → Adds s b c r
Adds-from_answer s b c (Ok u) a =
    (same_building (building_with s b) c a.limits a.nodes a.edges a.members, a.fits)
Adds-from_answer s b c (Err TooManyNodes) a =
    (same_building b c a.limits a.nodes a.edges a.members, a.fits)
Adds-from_answer s b c (Err TooManyEdges) a =
    (same_building b c a.limits a.nodes a.edges a.members, a.fits.0, a.fits.1)
Adds-from_answer s b c (Err NoMemory) a = same_building b c a.limits a.nodes a.edges a.members

pub IsBuilt-from_added : (s : Statement) (b c : Building) (r : Result ⊤ GraphRefusal) → IsPlain s
    → Adds s b c r → IsBuilt b → IsBuilt c
IsBuilt-from_added s b c (Ok u) plain h built =
    subst IsBuilt (sym h.0) (record {
      well_formed = well_formed_with b.graph built.well_formed s plain;
      within = h.1;
    })
IsBuilt-from_added s b c (Err TooManyNodes) plain h built = subst IsBuilt (sym h.0) built
IsBuilt-from_added s b c (Err TooManyEdges) plain h built = subst IsBuilt (sym h.0) built
IsBuilt-from_added s b c (Err NoMemory) plain h built = subst IsBuilt (sym h) built

-- A graph with what it says already is that graph.
module _ (G : DataGraph) (well : IsWellFormed G) where
  end_known : (v : Value) → IsEnd G v → with_end v G.nodes ≡ G.nodes
  end_known (Data (Node n)) h = inserted-known bytes_cmp bytes_cmp-total n G.nodes well.nodes_ascend h
  end_known (Data d) h = refl
  end_known (Page p) h = refl

  pub graph_with-known : (s : Statement) → IsStatedIn G s → graph_with s G ≡ G
  graph_with-known (a_node n) h =
      let nodes = inserted-known bytes_cmp bytes_cmp-total n G.nodes well.nodes_ascend h in
      λ i. record { nodes = nodes i; edges = G.edges; members = G.members }
  graph_with-known (a_member c n) h =
      let nodes = inserted-known bytes_cmp bytes_cmp-total n G.nodes well.nodes_ascend
      (well.members_are_nodes _ h) in
      let members = inserted-known member_cmp member_cmp-total (record {
        collection = c;
        node = n;
      }) G.members well.members_ascend h in
      λ i. record { nodes = nodes i; edges = G.edges; members = members i }
  graph_with-known (an_edge n l v) h =
      let start = inserted-known bytes_cmp bytes_cmp-total n G.nodes well.nodes_ascend
      (well.starts_are_nodes _ h) in
      let nodes = ap (with_end v) start ∙ end_known v (well.ends_are_data _ h) in
      let edges = inserted-known edge_cmp edge_cmp-total (record {
        from = n;
        label = l;
        to = v;
      }) G.edges well.edges_ascend h in
      λ i. record { nodes = nodes i; edges = edges i; members = G.members }

-- what a graph says already is accepted, unless it is out of memory, and changes nothing
pub known_accepted : (s : Statement) (b c : Building) (r : Result ⊤ GraphRefusal) → IsBuilt b
    → IsStatedIn b.graph s → Adds s b c r → (c ≡ b) × ((r ≡ Ok tt) ⊎ (r ≡ Err NoMemory))
known_accepted s b c (Ok u) built h a = (
  a.0 ∙ (λ i. record {
    limits = b.limits;
    graph = graph_with-known b.graph built.well_formed s h i;
  }),
  inl refl,
)
known_accepted s b c (Err TooManyNodes) built h a =
    let same : length (graph_with s b.graph).nodes
    ≡ length b.graph.nodes = ap (λ (G : DataGraph). length G.nodes)
    (graph_with-known b.graph built.well_formed s h) in
    absurd (omega (arith, a.1, built.within.0))
known_accepted s b c (Err TooManyEdges) built h a =
    let edges : length (graph_with s b.graph).edges
    ≡ length b.graph.edges = ap (λ (G : DataGraph). length G.edges)
    (graph_with-known b.graph built.well_formed s h) in
    let members : length (graph_with s b.graph).members
    ≡ length b.graph.members = ap (λ (G : DataGraph). length G.members)
    (graph_with-known b.graph built.well_formed s h) in
    absurd (omega (arith, a.2, built.within.1))
known_accepted s b c (Err NoMemory) built h a = (a, inr refl)

pub Fits-from_refusal : (l : Limits) (nodes edges more : ℕ) (r : GraphRefusal) → edges ≡ more
    → Refuses l nodes edges (Some r) → Fits l nodes more (Err r)
Fits-from_refusal l nodes edges more TooManyNodes same h = h
Fits-from_refusal l nodes edges more TooManyEdges same h = (h.0, rw (← same) h.1)
Fits-from_refusal l nodes edges more NoMemory same h = absurd h

-- an answer that is no error is `Ok`
pub at_ok : {X : Type 0} (r : Result ⊤ GraphRefusal) (a b x : X) → is_err r ≡ false
    → x ≡ (if is_ok r then a else b) → x ≡ a
at_ok (Ok u) a b x _ h = h
at_ok (Err e) a b x wrong h = cc

pub fits_at_ok : (l : Limits) (nodes edges : ℕ) (r : Result ⊤ GraphRefusal) → is_err r ≡ false
    → Fits l nodes edges r → (nodes ≤ l.nodes) × (edges ≤ l.edges)
fits_at_ok l nodes edges (Ok u) _ h = h
fits_at_ok l nodes edges (Err e) wrong h = cc

empty_well_formed : IsWellFormed (record { nodes = []; edges = []; members = [] })
unfolding IsStrictlySortedBy
empty_well_formed = record {
  nodes_ascend = tt;
  edges_ascend = tt;
  members_ascend = tt;
  starts_are_nodes = λ e at. absurd (Contains-nil e at);
  ends_are_data = λ e at. absurd (Contains-nil e at);
  members_are_nodes = λ m at. absurd (Contains-nil m at);
}

-- the empty graph is within every limit
pub empty_built : (l : Limits) (nodes : List Name) (edges : List Edge) (members : List Member)
    → nodes ≡ [] → edges ≡ [] → members ≡ [] → IsBuilt (record {
      limits = l;
      graph = record { nodes = nodes; edges = edges; members = members };
    })
empty_built l nodes edges members no_nodes no_edges no_members =
    let empty : IsBuilt (record {
      limits = l;
      graph = record { nodes = []; edges = []; members = [] };
    }) = record { well_formed = empty_well_formed; within = (omega arith, omega arith) } in
    subst IsBuilt (λ i. record {
      limits = l;
      graph = record { nodes = sym no_nodes i; edges = sym no_edges i; members = sym no_members i };
    }) empty
