-- Statements of a graph, taken from the empty graph on, give the graph.
use Rattle.std.proofs.Common.{◌≡◌, refl, sym, ap, subst, ◌∙◌, inl, inr, ℕ, ◌≤◌, ◌+◌, List, [], ◌∷◌, ◌++◌, length, arith, map, Contains, true, false, Bool, if◌then◌else◌}
use Rattle.std.specs.declared.cmp.Ordering.{Ordering}
use Rattle.std.specs.declared.cmp.Ordering.TheVariants.{Less}
use Rattle.std.specs.Ordering.{is_eq}
use Rattle.std.specs.Cmp.{IsTotalOrder}
use Rattle.std.proofs.lemmas.Cmp.{tied_itself}
use Rattle.std.specs.BTreeSet.{insert_key}
use Rattle.std.specs.List.Sorted.{IsStrictlySortedBy}
use Rattle.std.proofs.lemmas.List.Elements.{Contains-append_cases, Contains-append_left, Contains-append_right}
use Rattle.sd_value.specs.declared.Datum.TheVariants.{Int, Text, Url, File, Node}
use Rattle.sd_value.specs.declared.Value.{Value}
use Rattle.sd_value.specs.declared.Value.TheVariants.{Data, Page}
use Rattle.sd_value.specs.Order.{bytes_cmp}
use Rattle.sd_value.specs.OrderLaws.{bytes_cmp-exact, bytes_cmp-total}
use Rattle.sd_value.specs.Members.{Contains-nil, Contains-cons_cases, Contains-here, Contains-there, Contains-map, Contains-mapped, Contains-flat_map, Contains-flat_mapped}
use Rattle.sd_value.specs.AscendingLaws.{head_below, tail_ascends, not_below_itself, same_list}
use Rattle.graph_spec.specs.declared.Edge.{Edge}
use Rattle.graph_spec.specs.declared.Member.{Member}
use Rattle.graph_spec.specs.declared.Step.{Step as Arrow}
use Rattle.graph_spec.specs.DataGraph.{DataGraph, Name, IsWellFormed, IsEnd}
use Rattle.graph_spec.specs.Orders.{edge_cmp, edge_cmp-exact, edge_cmp-total, member_cmp, member_cmp-exact, member_cmp-total}
use Rattle.sd_graph.specs.declared.Limits.{Limits}
use Rattle.sd_graph.specs.Statement.{Statement, a_node, a_member, an_edge, Building, building_with, with_end, IsWithin, IsStatedIn}
use Rattle.sd_graph.specs.Inserted.{inserted-there, inserted-cases, inserted-here, inserted-ascends}
use Rattle.sd_graph.specs.Stating.{Step, says, fails, Leads}
use Rattle.sd_ddl.specs.Kinds.{same_name}
use Rattle.sd_ddl.specs.Written.{collection_if, collections_of, step_if, steps_out}
use Rattle.sd_ddl.proofs.Maps.{same_name-is}
use Rattle.ddl_laws.specs.RoundTrip.{empty}
use Rattle.ddl_laws.proofs.Kindless.{Says, member_statement, edge_statement, statements_at, graph_statements}

-- an ascending list of some of ys
abbrev pub Some_of : {X : Type 0} → (X → X → Ordering) → List X → List X → Type 0
Some_of {X} R xs ys = IsStrictlySortedBy R xs × ((z : X) → Contains xs z → Contains ys z)

nothing_of : {X : Type 0} (R : X → X → Ordering) (ys : List X) → Some_of R [] ys
unfolding IsStrictlySortedBy
nothing_of R ys = (tt, λ z m. absurd (Contains-nil z m))

module _ {X : Type 0} {R : X → X → Ordering} (total : IsTotalOrder R) where
  some_inserted : (k : X) (xs ys : List X) → Some_of R xs ys → Contains ys k → Some_of R (insert_key R xs k) ys
  some_inserted k xs ys h at =
      (inserted-ascends R total k xs h.0, λ z m. elim (inserted-cases R k xs z m) [ inl e ↦ subst (Contains ys) e at | inr old ↦ h.1 z old ])

  fewer : (xs ys : List X) → IsStrictlySortedBy R ys → Some_of R xs ys → length xs ≤ length ys
  fewer [] ys up h = omega arith
  fewer (x ∷ xs) [] up h = absurd (Contains-nil x (h.1 x (Contains-here x xs)))
  fewer (x ∷ xs) (y ∷ ys) up h =
      let rest : length xs ≤ length ys = fewer xs ys (tail_ascends total y ys up) (
        tail_ascends total x xs h.0,
        λ z m.
            elim (Contains-cons_cases y ys z (h.1 z (Contains-there x xs z m))) [
              | inl e ↦ absurd (elim (Contains-cons_cases y ys x (h.1 x (Contains-here x xs))) [
                | inl f ↦ not_below_itself total x (subst (λ w. R x w ≡ Less) (sym e ∙ f) (head_below total x xs h.0 z m))
                | inr later ↦ not_below_itself total x (total.trans x y x (subst (λ w. R x w ≡ Less) (sym e) (head_below total x xs h.0 z m)) (head_below total y ys up x later))
              ])
              | inr later ↦ later
            ],
      ) in
      omega (arith, rest)

module _ (G : DataGraph) (well : IsWellFormed G) (limits : Limits) (room : IsWithin (record { limits = limits; graph = G })) where
  -- a part of the graph
  record Part_of (b : Building) : Type 0 where
    limited : b.limits ≡ limits
    nodes : Some_of bytes_cmp b.graph.nodes G.nodes
    edges : Some_of edge_cmp b.graph.edges G.edges
    members : Some_of member_cmp b.graph.members G.members

  end_of : (v : Value) (names : List Name) → IsEnd G v → Some_of bytes_cmp names G.nodes → Some_of bytes_cmp (with_end v names) G.nodes
  end_of (Data (Node n)) names e h = some_inserted bytes_cmp-total n names G.nodes h e
  end_of (Data (Int n)) names e h = h
  end_of (Data (Text n)) names e h = h
  end_of (Data (Url n)) names e h = h
  end_of (Data (File n)) names e h = h
  end_of (Page p) names e h = absurd e

  part_with : (s : Statement) (b : Building) → IsStatedIn G s → Part_of b → Part_of (building_with s b)
  part_with (a_node n) b at h = record { limited = h.limited; nodes = some_inserted bytes_cmp-total n b.graph.nodes G.nodes h.nodes at; edges = h.edges; members = h.members }
  part_with (a_member c n) b at h = record {
    limited = h.limited;
    nodes = some_inserted bytes_cmp-total n b.graph.nodes G.nodes h.nodes (well.members_are_nodes _ at);
    edges = h.edges;
    members = some_inserted member_cmp-total _ b.graph.members G.members h.members at;
  }
  part_with (an_edge n l v) b at h = record {
    limited = h.limited;
    nodes = end_of v _ (well.ends_are_data _ at) (some_inserted bytes_cmp-total n b.graph.nodes G.nodes h.nodes (well.starts_are_nodes _ at));
    edges = some_inserted edge_cmp-total _ b.graph.edges G.edges h.edges at;
    members = h.members;
  }

  part_fits : (b : Building) → Part_of b → IsWithin b
  part_fits b h =
      let nodes : length b.graph.nodes ≤ length G.nodes = fewer bytes_cmp-total b.graph.nodes G.nodes well.nodes_ascend h.nodes in
      let edges : length b.graph.edges ≤ length G.edges = fewer edge_cmp-total b.graph.edges G.edges well.edges_ascend h.edges in
      let members : length b.graph.members ≤ length G.members = fewer member_cmp-total b.graph.members G.members well.members_ascend h.members in
      let most : length G.nodes ≤ b.limits.nodes = subst (λ (l : Limits). length G.nodes ≤ l.nodes) (sym h.limited) room.0 in
      let all : length G.edges + length G.members ≤ b.limits.edges = subst (λ (l : Limits). length G.edges + length G.members ≤ l.edges) (sym h.limited) room.1 in
      (omega (arith, nodes, most), omega (arith, edges, members, all))

  end_stays : (v : Value) (names : List Name) (n : Name) → Contains names n → Contains (with_end v names) n
  end_stays (Data (Node m)) names n h = inserted-there bytes_cmp m names n h
  end_stays (Data (Int m)) names n h = h
  end_stays (Data (Text m)) names n h = h
  end_stays (Data (Url m)) names n h = h
  end_stays (Data (File m)) names n h = h
  end_stays (Page p) names n h = h

  -- what is stated stays stated
  stays : (s t : Statement) (b : Building) → IsStatedIn b.graph t → IsStatedIn (building_with s b).graph t
  stays (a_node n) (a_node m) b h = inserted-there bytes_cmp n b.graph.nodes m h
  stays (a_node n) (a_member c m) b h = h
  stays (a_node n) (an_edge m l v) b h = h
  stays (a_member d n) (a_node m) b h = inserted-there bytes_cmp n b.graph.nodes m h
  stays (a_member d n) (a_member c m) b h = inserted-there member_cmp _ b.graph.members _ h
  stays (a_member d n) (an_edge m l v) b h = h
  stays (an_edge n k u) (a_node m) b h = end_stays u _ m (inserted-there bytes_cmp n b.graph.nodes m h)
  stays (an_edge n k u) (a_member c m) b h = h
  stays (an_edge n k u) (an_edge m l v) b h = inserted-there edge_cmp _ b.graph.edges _ h

  now_stated : (s : Statement) (b : Building) → IsStatedIn (building_with s b).graph s
  now_stated (a_node n) b = inserted-here bytes_cmp bytes_cmp-exact n b.graph.nodes
  now_stated (a_member c n) b = inserted-here member_cmp member_cmp-exact _ b.graph.members
  now_stated (an_edge n l v) b = inserted-here edge_cmp edge_cmp-exact _ b.graph.edges

  record Led (b : Building) (steps : List (Step ℕ ℕ)) (ts : List Statement) : Type 0 where
    last : Building
    leads : Leads b steps last
    part : Part_of last
    kept : (t : Statement) → IsStatedIn b.graph t → IsStatedIn last.graph t
    stated : (t : Statement) → Contains ts t → IsStatedIn last.graph t

  led : (steps : List (Step ℕ ℕ)) (ts : List Statement) (b : Building) → Says steps ts → ((t : Statement) → Contains ts t → IsStatedIn G t) → Part_of b → Led b steps ts
  led [] [] b h in_G part = record { last = b; leads = refl; part = part; kept = λ t at. at; stated = λ t m. absurd (Contains-nil t m) }
  led [] (t ∷ ts) b h in_G part = absurd h
  led (fails f ∷ steps) ts b h in_G part = absurd h
  led (says p s ∷ steps) [] b h in_G part = absurd h
  led (says p s ∷ steps) (t ∷ ts) b h in_G part =
      let at : IsStatedIn G s = subst (IsStatedIn G) (sym h.0) (in_G t (Contains-here t ts)) in
      let more = part_with s b at part in
      let rest = led steps ts (building_with s b) h.1 (λ u m. in_G u (Contains-there t ts u m)) more in record {
        last = rest.last;
        leads = (part_fits (building_with s b) more, rest.leads);
        part = rest.part;
        kept = λ u k. rest.kept u (stays s u b k);
        stated = λ u m. elim (Contains-cons_cases t ts u m) [
          | inl e ↦ rest.kept u (subst (IsStatedIn (building_with s b).graph) (h.0 ∙ e) (now_stated s b))
          | inr later ↦ rest.stated u later
        ];
      }

  only_if : {X : Type 0} (here : Bool) (x z : X) → Contains (if here then x ∷ [] else []) z → (here ≡ true) × (x ≡ z)
  only_if true x z h = elim (Contains-cons_cases x [] z h) [ inl e ↦ (refl, e) | inr none ↦ absurd (Contains-nil z none) ]
  only_if false x z h = absurd (Contains-nil z h)

  at_if : {X : Type 0} (here : Bool) (x : X) → here ≡ true → Contains (if here then x ∷ [] else []) x
  at_if true x e = Contains-here x []
  at_if false x e = cc

  -- each statement of the graph's nodes is one of the graph
  all_in_G : (t : Statement) → Contains (graph_statements G) t → IsStatedIn G t
  all_in_G t m =
      let (n, at, here) = Contains-flat_map (statements_at G) G.nodes t m in
      elim (Contains-cons_cases (a_node n) (map (member_statement n) (collections_of G.members n) ++ map (edge_statement n) (steps_out G.edges n)) t here) [
        | inl e ↦ subst (IsStatedIn G) e at
        | inr rest ↦ elim (Contains-append_cases (map (member_statement n) (collections_of G.members n)) (map (edge_statement n) (steps_out G.edges n)) t rest) [
          | inl front ↦
              let (c, is, has) = Contains-map (member_statement n) (collections_of G.members n) t front in
              let (member, among, one) = Contains-flat_map (collection_if n) G.members c has in
              let (named, same) = only_if (same_name member.node n) member.collection c one in
              subst (IsStatedIn G) is (subst (Contains G.members) (λ i. record { collection = same i; node = same_name-is member.node n named i }) among)
          | inr back ↦
              let (s, is, has) = Contains-map (edge_statement n) (steps_out G.edges n) t back in
              let (edge, among, one) = Contains-flat_map (step_if n) G.edges s has in
              let (named, same) = only_if (same_name edge.from n) (record { label = edge.label; end = edge.to }) s one in
              subst (IsStatedIn G) is (subst (Contains G.edges) (λ i. record { from = same_name-is edge.from n named i; label = (same i).label; to = (same i).end }) among)
        ]
      ]

  same_self : (n : Name) → same_name n n ≡ true
  same_self n = ap is_eq (tied_itself bytes_cmp-total n)

  start : Part_of (empty limits)
  start = record { limited = refl; nodes = nothing_of bytes_cmp G.nodes; edges = nothing_of edge_cmp G.edges; members = nothing_of member_cmp G.members }

  node_in : (n : Name) → Contains G.nodes n → Contains (graph_statements G) (a_node n)
  node_in n at = Contains-flat_mapped (statements_at G) G.nodes n (a_node n) at (Contains-here (a_node n) _)

  edge_in : (e : Edge) → Contains G.edges e → Contains (graph_statements G) (an_edge e.from e.label e.to)
  edge_in e at =
      let s : Arrow = record { label = e.label; end = e.to } in
      Contains-flat_mapped (statements_at G) G.nodes e.from (an_edge e.from e.label e.to) (well.starts_are_nodes e at)
      (Contains-there (a_node e.from) _ (an_edge e.from e.label e.to)
      (Contains-append_right (map (member_statement e.from) (collections_of G.members e.from)) (map (edge_statement e.from) (steps_out G.edges e.from)) (an_edge e.from e.label e.to)
      (Contains-mapped (edge_statement e.from) (steps_out G.edges e.from) s (Contains-flat_mapped (step_if e.from) G.edges e s at (at_if (same_name e.from e.from) s (same_self e.from))))))

  member_in : (m : Member) → Contains G.members m → Contains (graph_statements G) (a_member m.collection m.node)
  member_in m at =
      Contains-flat_mapped (statements_at G) G.nodes m.node (a_member m.collection m.node) (well.members_are_nodes m at)
      (Contains-there (a_node m.node) _ (a_member m.collection m.node)
      (Contains-append_left (map (member_statement m.node) (collections_of G.members m.node)) (map (edge_statement m.node) (steps_out G.edges m.node)) (a_member m.collection m.node)
      (Contains-mapped (member_statement m.node) (collections_of G.members m.node) m.collection
      (Contains-flat_mapped (collection_if m.node) G.members m m.collection at (at_if (same_name m.node m.node) m.collection (same_self m.node))))))

  pub leads_to_G : (steps : List (Step ℕ ℕ)) → Says steps (graph_statements G) → Leads (empty limits) steps (record { limits = limits; graph = G })
  leads_to_G steps h =
      let l = led steps (graph_statements G) (empty limits) h all_in_G start in
      let nodes : l.last.graph.nodes ≡ G.nodes =
      same_list bytes_cmp-total l.last.graph.nodes G.nodes l.part.nodes.0 well.nodes_ascend l.part.nodes.1 (λ n at. l.stated (a_node n) (node_in n at)) in
      let edges : l.last.graph.edges ≡ G.edges =
      same_list edge_cmp-total l.last.graph.edges G.edges l.part.edges.0 well.edges_ascend l.part.edges.1 (λ e at. l.stated (an_edge e.from e.label e.to) (edge_in e at)) in
      let members : l.last.graph.members ≡ G.members =
      same_list member_cmp-total l.last.graph.members G.members l.part.members.0 well.members_ascend l.part.members.1 (λ m at. l.stated (a_member m.collection m.node) (member_in m at)) in
      let same : l.last ≡ record { limits = limits; graph = G } = λ i. record { limits = l.part.limited i; graph = record { nodes = nodes i; edges = edges i; members = members i } } in
      subst (λ b. Leads (empty limits) steps b) same l.leads
