-- The parts after an edit make the graph after the edit.
use Rattle.std.specs.Prelude.{if◌then◌else◌, ◌≡◌, ◌≢◌, ◌⊎◌, ◌↔◌, ◌<◌, ◌≤◌, ◌+◌, not, Bool, true, false, List, [], length, Contains, Result, Ok, Err, ⊤}
use Rattle.std.specs.declared.cmp.Ordering.{Ordering}
use Rattle.std.specs.List.Sorted.{IsStrictlySortedBy}
use Rattle.std.specs.Cmp.{IsTotalOrder}
use Rattle.std.specs.FinMap.{IsAntisymmetric}
use Rattle.std.proofs.Common.{refl, sym, subst, inl, inr}
use Rattle.sd_value.specs.Order.{bytes_cmp}
use Rattle.sd_value.specs.OrderLaws.{bytes_cmp-total, bytes_cmp-exact}
use Rattle.sd_value.specs.Ascending.{ListsExactly}
use Rattle.sd_value.specs.Members.{Contains-nil}
use Rattle.graph_spec.specs.declared.Edge.{Edge}
use Rattle.graph_spec.specs.declared.Member.{Member}
use Rattle.graph_spec.specs.DataGraph.{DataGraph, Name, IsWellFormed}
use Rattle.graph_spec.specs.Orders.{edge_cmp, edge_cmp-total, edge_cmp-exact, member_cmp, member_cmp-total, member_cmp-exact}
use Rattle.graph_spec.specs.Statement.{empty_graph}
use Rattle.sd_graph.specs.Statement.{Building, IsWithin, Fits}
use Rattle.sd_graph.specs.declared.GraphRefusal.{GraphRefusal}
use Rattle.sd_graph.specs.declared.GraphRefusal.TheVariants.{TooManyNodes, TooManyEdges, NoMemory}
use Rattle.edit_spec.specs.declared.Edit.{Edit}
use Rattle.edit_spec.specs.declared.Edit.TheVariants.{Add, Remove, Enter, Leave}
use Rattle.edit_spec.specs.Edited.{Edited, IsOfData, HasNodeAfter, HasEdgeAfter, HasMemberAfter}
use Rattle.edit_laws.proofs.Graphs.{one_graph, well_formed_after}
use Rattle.edit_graphs.specs.After.{graph_after}
use Rattle.edit_graphs.proofs.After.{after, inserted_exactly, removed_exactly}
use Rattle.live_store.specs.Shift.{Moves, Shift, minus, plus}
use Rattle.live_layers.specs.Items.{HasItem, items_with, items_without, edge_with, member_with, edge_without, member_without}
use Rattle.live_store.specs.Live.{Applies, changed, AreAscending, Layers, HasItems, IsNodeOf, IsNewNode, IsChanged, items_put, puts, turned}
use Rattle.live_store.proofs.ListLaws.{in_or_not, same_or_other, minus_exactly, plus_exactly}

module _ {X : Type 0} (R : X → X → Ordering) (total : IsTotalOrder R) (exact : IsAntisymmetric R)
    (bs ds cs : List X) (up : IsStrictlySortedBy R bs) where
  made : ListsExactly R (λ z. (Contains bs z × (Contains ds z → ⊥)) ⊎ Contains cs z) (plus R (minus R bs ds) cs)
  made = plus_exactly R total exact (λ z. Contains bs z × (Contains ds z → ⊥)) (minus R bs ds) cs
      (minus_exactly R total exact (Contains bs) bs ds
      (record { ascending = up; sound = λ x m. m; complete = λ x m. m }))

  -- what goes was there, and what comes is new
  shift_of : ((z : X) → Contains ds z → Contains bs z) → ((z : X) → Contains cs z → Contains bs z → ⊥)
      → Shift (Contains bs) (Contains (plus R (minus R bs ds) cs)) (Contains ds) (Contains cs)
  shift_of was new z = record {
    stays = λ p n. made.complete z (inl (p, n));
    comes = λ c. made.complete z (inr c);
    was = was z;
    went = λ d q. elim (made.sound z q) [ inl k ↦ k.1 d | inr c ↦ new z c (was z d) ];
    is_new = new z;
    all = λ q. elim (made.sound z q) [ inl k ↦ inl k.0 | inr c ↦ inr c ];
  }

-- ---- one element

-- fewer went, and more came
grown : {P Q D C Q' D' C' : Type 0} → Moves P Q D C → Moves P Q' D' C' → (D' → D) → (C → C') → Q → Q'
grown m k fewer more q = elim (m.all q) [
  | inl p ↦ k.stays p (λ d. m.went (fewer d) q)
  | inr c ↦ k.comes (more c)
]

module _ {X : Type 0} (x z : X) (same : (z ≡ x) ⊎ (z ≢ x)) {P Q D C Q' D' C' : Type 0} (m : Moves P Q D C)
    (k : Moves P Q' D' C') where
  added_old : (z ≡ x → P) → D' ↔ (D × (z ≢ x)) → C' ↔ C → Q' ↔ (Q ⊎ (z ≡ x))
  added_old was down up = (
    λ q. elim same [
      | inl e ↦ inr e
      | inr n ↦ inl (elim (k.all q) [
        | inl p ↦ m.stays p (λ d. k.went (down.1 (d, n)) q)
        | inr c ↦ m.comes (up.0 c)
      ])
    ],
    λ h. elim h [
      | inl q ↦ grown m k (λ d. (down.0 d).0) up.1 q
      | inr e ↦ k.stays (was e) (λ d. (down.0 d).1 e)
    ],
  )

  added_new : D' ↔ D → C' ↔ (C ⊎ (z ≡ x)) → Q' ↔ (Q ⊎ (z ≡ x))
  added_new down up = (
    λ q. elim (k.all q) [
      | inl p ↦ inl (m.stays p (λ d. k.went (down.1 d) q))
      | inr c ↦ elim (up.0 c) [ inl old ↦ inl (m.comes old) | inr e ↦ inr e ]
    ],
    λ h. elim h [
      | inl q ↦ grown m k down.0 (λ c. up.1 (inl c)) q
      | inr e ↦ k.comes (up.1 (inr e))
    ],
  )

  removed_old : (z ≡ x → P) → D' ↔ (D ⊎ (z ≡ x)) → C' ↔ C → Q' ↔ (Q × (z ≢ x))
  removed_old was down up = (
    λ q. elim (k.all q) [
      | inl p ↦ (m.stays p (λ d. k.went (down.1 (inl d)) q), λ e. k.went (down.1 (inr e)) q)
      | inr c ↦ (m.comes (up.0 c), λ e. m.is_new (up.0 c) (was e))
    ],
    λ (q, n). elim (m.all q) [
      | inl p ↦ k.stays p (λ d. elim (down.0 d) [ inl old ↦ m.went old q | inr e ↦ n e ])
      | inr c ↦ k.comes (up.1 c)
    ],
  )

  removed_new : (z ≡ x → P → ⊥) → D' ↔ D → C' ↔ (C × (z ≢ x)) → Q' ↔ (Q × (z ≢ x))
  removed_new not_was down up = (
    λ q. elim (k.all q) [
      | inl p ↦ (m.stays p (λ d. k.went (down.1 d) q), λ e. not_was e p)
      | inr c ↦ (let h = up.0 c in (m.comes h.0, h.1))
    ],
    λ (q, n). elim (m.all q) [
      | inl p ↦ k.stays p (λ d. m.went (down.0 d) q)
      | inr c ↦ k.comes (up.1 (c, n))
    ],
  )

  kept_all : D' ↔ D → C' ↔ C → Q' ↔ Q
  kept_all down up = (grown k m down.1 up.0, grown m k down.0 up.1)

edge_same : (z x : Edge) → (z ≡ x) ⊎ (z ≢ x)
edge_same = same_or_other edge_cmp edge_cmp-total edge_cmp-exact

member_same : (z x : Member) → (z ≡ x) ⊎ (z ≢ x)
member_same = same_or_other member_cmp member_cmp-total member_cmp-exact

itself : {P : Type 0} → P ↔ P
itself = (λ p. p, λ p. p)

-- ---- nodes

nodes_after : (B L : DataGraph) (nodes names : List Name) (e : Edit) → IsWellFormed B
    → Shift (Contains B.nodes) (Contains L.nodes) (λ n. ⊥) (Contains nodes)
    → ListsExactly bytes_cmp (IsNewNode B nodes e) names
    → ListsExactly bytes_cmp (HasNodeAfter L e) (plus bytes_cmp B.nodes names)
nodes_after B L nodes names e well moves lists =
    let all = plus_exactly bytes_cmp bytes_cmp-total bytes_cmp-exact (Contains B.nodes) B.nodes names
    (record { ascending = well.nodes_ascend; sound = λ n m. m; complete = λ n m. m }) in
    record {
      ascending = all.ascending;
      sound = λ n m. elim (all.sound n m) [
        | inl b ↦ old n e ((moves n).stays b (λ d. d))
        | inr c ↦ elim (lists.sound n c) [ inl k ↦ old n e ((moves n).comes k) | inr k ↦ of n e k.1 ]
      ];
      complete = λ n h. all.complete n (elim (parts n e h) [
        | inl q ↦ elim ((moves n).all q) [ inl b ↦ inl b | inr c ↦ inr (lists.complete n (inl c)) ]
        | inr k ↦ elim (in_or_not bytes_cmp bytes_cmp-total bytes_cmp-exact B.nodes n) [
          | inl b ↦ inl b
          | inr none ↦ inr (lists.complete n (inr (none, k)))
        ]
      ]);
    }
  where
    old : (n : Name) (e : Edit) → Contains L.nodes n → HasNodeAfter L e n
    old n (Add e) q = inl q
    old n (Remove e) q = q
    old n (Enter m) q = inl q
    old n (Leave m) q = q

    of : (n : Name) (e : Edit) → IsNodeOf e n → HasNodeAfter L e n
    of n (Add e) k = inr k
    of n (Remove e) k = absurd k
    of n (Enter m) k = inr k
    of n (Leave m) k = absurd k

    parts : (n : Name) (e : Edit) → HasNodeAfter L e n → Contains L.nodes n ⊎ IsNodeOf e n
    parts n (Add e) h = h
    parts n (Remove e) h = inl h
    parts n (Enter m) h = h
    parts n (Leave m) h = inl h

node_shift : (B : DataGraph) (nodes names : List Name) (e : Edit) → IsWellFormed B
    → ((n : Name) → Contains nodes n → Contains B.nodes n → ⊥)
    → ListsExactly bytes_cmp (IsNewNode B nodes e) names
    → Shift (Contains B.nodes) (Contains (plus bytes_cmp B.nodes names)) (λ n. ⊥) (Contains names)
node_shift B nodes names e well new lists n =
    let m : Moves (Contains B.nodes n) (Contains (plus bytes_cmp B.nodes names) n) (Contains [] n) (Contains names n) =
    shift_of bytes_cmp bytes_cmp-total bytes_cmp-exact B.nodes [] names well.nodes_ascend
    (λ z d. absurd (Contains-nil z d))
    (λ z c b. elim (lists.sound z c) [ inl k ↦ new z k b | inr k ↦ k.0 b ]) n in
    record {
      stays = λ p none. m.stays p (Contains-nil n);
      comes = m.comes;
      was = λ d. absurd d;
      went = λ d q. d;
      is_new = m.is_new;
      all = m.all;
    }

-- ---- edges and members

-- the parts after an edit
module _ (B C D : DataGraph) (nodes : List Name) (L : DataGraph) (layers : Layers B C D nodes L) (e : Edit) where
  -- of what the indexed graph has: only what went changes
  module _ (E : DataGraph) (has : HasItem B e) (items : HasItems D (turned (not (puts e)) e) E) where
    gone_edges : (e : Edit) → HasItem B e → ((k : Edge) → Contains E.edges k ↔ HasEdgeAfter D (turned (not (puts e)) e) k)
        → (k : Edge) → Contains E.edges k → Contains B.edges k
    gone_edges (Add x) has is k d = (layers.edge_moves k).was ((is k).0 d).0
    gone_edges (Remove x) has is k d = elim ((is k).0 d) [
      | inl old ↦ (layers.edge_moves k).was old
      | inr same ↦ subst (Contains B.edges) (sym same) has
    ]
    gone_edges (Enter m) has is k d = (layers.edge_moves k).was ((is k).0 d)
    gone_edges (Leave m) has is k d = (layers.edge_moves k).was ((is k).0 d)

    gone_members : (e : Edit) → HasItem B e
        → ((k : Member) → Contains E.members k ↔ HasMemberAfter D (turned (not (puts e)) e) k)
        → (k : Member) → Contains E.members k → Contains B.members k
    gone_members (Add x) has is k d = (layers.member_moves k).was ((is k).0 d)
    gone_members (Remove x) has is k d = (layers.member_moves k).was ((is k).0 d)
    gone_members (Enter m) has is k d = (layers.member_moves k).was ((is k).0 d).0
    gone_members (Leave m) has is k d = elim ((is k).0 d) [
      | inl old ↦ (layers.member_moves k).was old
      | inr same ↦ subst (Contains B.members) (sym same) has
    ]

    gone_edge_moves : Shift (Contains B.edges) (Contains (changed B C E nodes).edges) (Contains E.edges) (Contains C.edges)
    gone_edge_moves = shift_of edge_cmp edge_cmp-total edge_cmp-exact B.edges E.edges C.edges layers.base.edges_ascend
        (gone_edges e has items.edges) (λ k c b. (layers.edge_moves k).is_new c b)

    gone_member_moves : Shift (Contains B.members) (Contains (changed B C E nodes).members) (Contains E.members)
        (Contains C.members)
    gone_member_moves = shift_of member_cmp member_cmp-total member_cmp-exact B.members E.members C.members
        layers.base.members_ascend (gone_members e has items.members) (λ k c b. (layers.member_moves k).is_new c b)

    edges_after_gone : (e : Edit) → HasItem B e
        → ((k : Edge) → Contains E.edges k ↔ HasEdgeAfter D (turned (not (puts e)) e) k) → (k : Edge)
        → Contains (changed B C E nodes).edges k ↔ HasEdgeAfter L e k
    edges_after_gone (Add x) has is k = added_old x k (edge_same k x) (layers.edge_moves k)
        (gone_edge_moves k) (λ e. subst (Contains B.edges) (sym e) has) (is k) itself
    edges_after_gone (Remove x) has is k = removed_old x k (edge_same k x) (layers.edge_moves k)
        (gone_edge_moves k) (λ e. subst (Contains B.edges) (sym e) has) (is k) itself
    edges_after_gone (Enter m) has is k = kept_all k k (inl refl) (layers.edge_moves k) (gone_edge_moves k) (is k) itself
    edges_after_gone (Leave m) has is k = kept_all k k (inl refl) (layers.edge_moves k) (gone_edge_moves k) (is k) itself

    members_after_gone : (e : Edit) → HasItem B e
        → ((k : Member) → Contains E.members k ↔ HasMemberAfter D (turned (not (puts e)) e) k) → (k : Member)
        → Contains (changed B C E nodes).members k ↔ HasMemberAfter L e k
    members_after_gone (Add x) has is k = kept_all k k (inl refl) (layers.member_moves k) (gone_member_moves k) (is k) itself
    members_after_gone (Remove x) has is k = kept_all k k (inl refl) (layers.member_moves k) (gone_member_moves k) (is k) itself
    members_after_gone (Enter m) has is k = added_old m k (member_same k m) (layers.member_moves k)
        (gone_member_moves k) (λ e. subst (Contains B.members) (sym e) has) (is k) itself
    members_after_gone (Leave m) has is k = removed_old m k (member_same k m)
        (layers.member_moves k) (gone_member_moves k) (λ e. subst (Contains B.members) (sym e) has) (is k) itself

    module _ (of_data : IsOfData e) (names : List Name) (lists : ListsExactly bytes_cmp (IsNewNode B nodes e) names) where
      pub edited_gone : Edited L e (changed B C E names)
      edited_gone = record {
        nodes = nodes_after B L nodes names e layers.base layers.node_moves lists;
        edges = record {
          ascending = (made edge_cmp edge_cmp-total edge_cmp-exact B.edges E.edges C.edges layers.base.edges_ascend).ascending;
          sound = λ k m. (edges_after_gone e has items.edges k).0 m;
          complete = λ k h. (edges_after_gone e has items.edges k).1 h;
        };
        members = record {
          ascending = (made member_cmp member_cmp-total member_cmp-exact B.members E.members C.members
              layers.base.members_ascend).ascending;
          sound = λ k m. (members_after_gone e has items.members k).0 m;
          complete = λ k h. (members_after_gone e has items.members k).1 h;
        };
      }

      pub layers_gone : Layers B C E names (changed B C E names)
      layers_gone = record {
        base = layers.base;
        came = layers.came;
        gone = items.ascending;
        whole = well_formed_after L (changed B C E names) e layers.whole of_data edited_gone;
        nodes_ascend = lists.ascending;
        node_moves = node_shift B nodes names e layers.base (λ n. (layers.node_moves n).is_new) lists;
        edge_moves = gone_edge_moves;
        member_moves = gone_member_moves;
      }

  -- of what it hasn't: only what came changes
  module _ (E : DataGraph) (hasnt : HasItem B e → ⊥) (items : HasItems C (turned (puts e) e) E) where
    came_edges : (e : Edit) → (HasItem B e → ⊥) → ((k : Edge) → Contains E.edges k ↔ HasEdgeAfter C (turned (puts e) e) k)
        → (k : Edge) → Contains E.edges k → Contains B.edges k → ⊥
    came_edges (Add x) hasnt is k c b = elim ((is k).0 c) [
      | inl old ↦ (layers.edge_moves k).is_new old b
      | inr same ↦ hasnt (subst (Contains B.edges) same b)
    ]
    came_edges (Remove x) hasnt is k c b = (layers.edge_moves k).is_new ((is k).0 c).0 b
    came_edges (Enter m) hasnt is k c b = (layers.edge_moves k).is_new ((is k).0 c) b
    came_edges (Leave m) hasnt is k c b = (layers.edge_moves k).is_new ((is k).0 c) b

    came_members : (e : Edit) → (HasItem B e → ⊥)
        → ((k : Member) → Contains E.members k ↔ HasMemberAfter C (turned (puts e) e) k)
        → (k : Member) → Contains E.members k → Contains B.members k → ⊥
    came_members (Add x) hasnt is k c b = (layers.member_moves k).is_new ((is k).0 c) b
    came_members (Remove x) hasnt is k c b = (layers.member_moves k).is_new ((is k).0 c) b
    came_members (Enter m) hasnt is k c b = elim ((is k).0 c) [
      | inl old ↦ (layers.member_moves k).is_new old b
      | inr same ↦ hasnt (subst (Contains B.members) same b)
    ]
    came_members (Leave m) hasnt is k c b = (layers.member_moves k).is_new ((is k).0 c).0 b

    came_edge_moves : Shift (Contains B.edges) (Contains (changed B E D nodes).edges) (Contains D.edges) (Contains E.edges)
    came_edge_moves = shift_of edge_cmp edge_cmp-total edge_cmp-exact B.edges D.edges E.edges layers.base.edges_ascend
        (λ k d. (layers.edge_moves k).was d) (came_edges e hasnt items.edges)

    came_member_moves : Shift (Contains B.members) (Contains (changed B E D nodes).members) (Contains D.members)
        (Contains E.members)
    came_member_moves = shift_of member_cmp member_cmp-total member_cmp-exact B.members D.members E.members
        layers.base.members_ascend (λ k d. (layers.member_moves k).was d) (came_members e hasnt items.members)

    edges_after_came : (e : Edit) → (HasItem B e → ⊥)
        → ((k : Edge) → Contains E.edges k ↔ HasEdgeAfter C (turned (puts e) e) k) → (k : Edge)
        → Contains (changed B E D nodes).edges k ↔ HasEdgeAfter L e k
    edges_after_came (Add x) hasnt is k = added_new x k (edge_same k x) (layers.edge_moves k)
        (came_edge_moves k) itself (is k)
    edges_after_came (Remove x) hasnt is k = removed_new x k (edge_same k x) (layers.edge_moves k)
        (came_edge_moves k) (λ e b. hasnt (subst (Contains B.edges) e b)) itself (is k)
    edges_after_came (Enter m) hasnt is k = kept_all k k (inl refl) (layers.edge_moves k) (came_edge_moves k) itself (is k)
    edges_after_came (Leave m) hasnt is k = kept_all k k (inl refl) (layers.edge_moves k) (came_edge_moves k) itself (is k)

    members_after_came : (e : Edit) → (HasItem B e → ⊥)
        → ((k : Member) → Contains E.members k ↔ HasMemberAfter C (turned (puts e) e) k) → (k : Member)
        → Contains (changed B E D nodes).members k ↔ HasMemberAfter L e k
    members_after_came (Add x) hasnt is k = kept_all k k (inl refl) (layers.member_moves k) (came_member_moves k) itself (is k)
    members_after_came (Remove x) hasnt is k = kept_all k k (inl refl) (layers.member_moves k) (came_member_moves k) itself
        (is k)
    members_after_came (Enter m) hasnt is k = added_new m k (member_same k m)
        (layers.member_moves k) (came_member_moves k) itself (is k)
    members_after_came (Leave m) hasnt is k = removed_new m k (member_same k m)
        (layers.member_moves k) (came_member_moves k) (λ e b. hasnt (subst (Contains B.members) e b)) itself (is k)

    module _ (of_data : IsOfData e) (names : List Name) (lists : ListsExactly bytes_cmp (IsNewNode B nodes e) names) where
      pub edited_came : Edited L e (changed B E D names)
      edited_came = record {
        nodes = nodes_after B L nodes names e layers.base layers.node_moves lists;
        edges = record {
          ascending = (made edge_cmp edge_cmp-total edge_cmp-exact B.edges D.edges E.edges layers.base.edges_ascend).ascending;
          sound = λ k m. (edges_after_came e hasnt items.edges k).0 m;
          complete = λ k h. (edges_after_came e hasnt items.edges k).1 h;
        };
        members = record {
          ascending = (made member_cmp member_cmp-total member_cmp-exact B.members D.members E.members
              layers.base.members_ascend).ascending;
          sound = λ k m. (members_after_came e hasnt items.members k).0 m;
          complete = λ k h. (members_after_came e hasnt items.members k).1 h;
        };
      }

      pub layers_came : Layers B E D names (changed B E D names)
      layers_came = record {
        base = layers.base;
        came = items.ascending;
        gone = layers.gone;
        whole = well_formed_after L (changed B E D names) e layers.whole of_data edited_came;
        nodes_ascend = lists.ascending;
        node_moves = node_shift B nodes names e layers.base (λ n. (layers.node_moves n).is_new) lists;
        edge_moves = came_edge_moves;
        member_moves = came_member_moves;
      }

-- ---- a layer with what an edit is of, or without it

module _ (G : DataGraph) (up : AreAscending G) where
  with_edge : (x : Edge) → HasItems G (Add x) (edge_with x G)
  with_edge x = let more = inserted_exactly edge_cmp edge_cmp-total edge_cmp-exact x G.edges up.edges in record {
    ascending = record { edges = more.ascending; members = up.members };
    edges = λ k. (more.sound k, more.complete k);
    members = λ k. (λ m. m, λ m. m);
  }

  no_edge : (x : Edge) → HasItems G (Remove x) (edge_without x G)
  no_edge x = let less = removed_exactly edge_cmp edge_cmp-total edge_cmp-exact x G.edges up.edges in record {
    ascending = record { edges = less.ascending; members = up.members };
    edges = λ k. (less.sound k, less.complete k);
    members = λ k. (λ m. m, λ m. m);
  }

  with_member : (x : Member) → HasItems G (Enter x) (member_with x G)
  with_member x = let more = inserted_exactly member_cmp member_cmp-total member_cmp-exact x G.members up.members in record {
    ascending = record { edges = up.edges; members = more.ascending };
    edges = λ k. (λ m. m, λ m. m);
    members = λ k. (more.sound k, more.complete k);
  }

  no_member : (x : Member) → HasItems G (Leave x) (member_without x G)
  no_member x = let less = removed_exactly member_cmp member_cmp-total member_cmp-exact x G.members up.members in record {
    ascending = record { edges = up.edges; members = less.ascending };
    edges = λ k. (λ m. m, λ m. m);
    members = λ k. (less.sound k, less.complete k);
  }

  items_of : (e : Edit) (put : Bool) → HasItems G (turned put e) (items_put put e G)
  items_of (Add x) true = with_edge x
  items_of (Add x) false = no_edge x
  items_of (Remove x) true = with_edge x
  items_of (Remove x) false = no_edge x
  items_of (Enter m) true = with_member m
  items_of (Enter m) false = no_member m
  items_of (Leave m) true = with_member m
  items_of (Leave m) false = no_member m

  items_changed : (e : Edit) (put : Bool) (H : DataGraph) → H ≡ items_put put e G → HasItems G (turned put e) H
  items_changed e put H is = subst (HasItems G (turned put e)) (sym is) (items_of e put)

-- ---- after an edit

module _ (B C D : DataGraph) (nodes : List Name) (L : DataGraph) (layers : Layers B C D nodes L) (e : Edit)
    (E F : DataGraph) (is : IsChanged B C D e E F) (of_data : IsOfData e) (names : List Name)
    (lists : ListsExactly bytes_cmp (IsNewNode B nodes e) names) where
  pub edited_after : Edited L e (changed B E F names)
  edited_after = elim is [
    | inl (has, gone, came) ↦ subst (λ (X : DataGraph). Edited L e (changed B X F names)) (sym came)
        (edited_gone B C D nodes L layers e F has (items_changed D layers.gone e (not (puts e)) F gone) of_data names lists)
    | inr (hasnt, came, gone) ↦ subst (λ (X : DataGraph). Edited L e (changed B E X names)) (sym gone)
        (edited_came B C D nodes L layers e E hasnt (items_changed C layers.came e (puts e) E came) of_data names lists)
  ]

  pub layers_after : Layers B E F names (changed B E F names)
  layers_after = elim is [
    | inl (has, gone, came) ↦ subst (λ (X : DataGraph). Layers B X F names (changed B X F names)) (sym came)
        (layers_gone B C D nodes L layers e F has (items_changed D layers.gone e (not (puts e)) F gone) of_data names lists)
    | inr (hasnt, came, gone) ↦ subst (λ (X : DataGraph). Layers B E X names (changed B E X names)) (sym gone)
        (layers_came B C D nodes L layers e E hasnt (items_changed C layers.came e (puts e) E came) of_data names lists)
  ]

-- ---- at first

pub layers_first : (B : DataGraph) → IsWellFormed B → Layers B empty_graph empty_graph [] B
unfolding IsStrictlySortedBy
layers_first B well = record {
  base = well;
  came = record { edges = tt; members = tt };
  gone = record { edges = tt; members = tt };
  whole = well;
  nodes_ascend = tt;
  node_moves = λ n. record {
    stays = λ p k. p;
    comes = λ c. absurd (Contains-nil n c);
    was = λ d. absurd d;
    went = λ d q. d;
    is_new = λ c p. Contains-nil n c;
    all = λ q. inl q;
  };
  edge_moves = still (Contains B.edges);
  member_moves = still (Contains B.members);
}
  where
    still : {X : Type 0} (P : X → Type 0) → Shift P P (Contains []) (Contains [])
    still P x = record {
      stays = λ p k. p;
      comes = λ c. absurd (Contains-nil x c);
      was = λ d. absurd (Contains-nil x d);
      went = λ d q. Contains-nil x d;
      is_new = λ c p. Contains-nil x c;
      all = λ q. inl q;
    }

-- the graph after an edit is the one that a builder makes
pub same_graph : (L H : DataGraph) (e : Edit) → IsWellFormed L → Edited L e H → H ≡ graph_after e L
same_graph L H e well edited = one_graph L H (graph_after e L) e edited (after L e well)

-- ---- what an edit answers

module _ (b : Building) (e : Edit) (H : DataGraph) (well : IsWellFormed b.graph) (edited : Edited b.graph e H) where
  after_is : H ≡ graph_after e b.graph
  after_is = same_graph b.graph H e well edited

  pub accepted : Fits b.limits (length H.nodes) (length H.edges + length H.members) (Ok tt)
      → Applies e b (record { limits = b.limits; graph = H }) (Ok tt)
  accepted fits = (
    λ i. record { limits = b.limits; graph = after_is i },
    subst (λ G. IsWithin (record { limits = b.limits; graph = G })) after_is fits,
  )

  pub refused : (r : GraphRefusal) → Fits b.limits (length H.nodes) (length H.edges + length H.members) (Err r)
      → Applies e b b (Err r)
  refused TooManyNodes fits = (refl, subst (λ (G : DataGraph). b.limits.nodes < length G.nodes) after_is fits)
  refused TooManyEdges (nodes, edges) = (
    refl,
    subst (λ (G : DataGraph). length G.nodes ≤ b.limits.nodes) after_is nodes,
    subst (λ (G : DataGraph). b.limits.edges < length G.edges + length G.members) after_is edges,
  )
  refused NoMemory fits = refl

-- the same of the building that the store is seen as
pub refused_as : (seen : Building) (b : Building) (e : Edit) (H : DataGraph) → IsWellFormed b.graph → Edited b.graph e H
    → (r : GraphRefusal) (x : Result ⊤ GraphRefusal) → x ≡ Err r
    → Fits b.limits (length H.nodes) (length H.edges + length H.members) x → b ≡ seen → Applies e seen seen (Err r)
refused_as seen b e H well edited r x is fits same =
    subst (λ (k : Building). Applies e k k (Err r)) same
    (refused b e H well edited r
    (subst (Fits b.limits (length H.nodes) (length H.edges + length H.members)) is fits))

-- a layer that was changed one way or the other
pub as_put : (p q : Bool) (e : Edit) (G H : DataGraph) → p ≡ q
    → H ≡ (if p then items_with e G else items_without e G) → H ≡ items_put q e G
as_put true true e G H same is = is
as_put false false e G H same is = is
as_put true false e G H same is = cc
as_put false true e G H same is = cc
