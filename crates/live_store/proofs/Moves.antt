-- What moves of a graph's edges and members moves of what is asked of it.
use Rattle.std.specs.Prelude.{◌≡◌, ◌⊎◌, ◌↔◌, ◌≤◌, ℕ, List, [], length, Contains}
use Rattle.std.specs.declared.cmp.Ordering.{Ordering}
use Rattle.std.specs.Cmp.{IsTotalOrder}
use Rattle.std.proofs.Common.{arith, refl, sym, ap, ◌∙◌, subst, inl, inr}
use Rattle.sd_value.specs.declared.Datum.TheVariants.{Int, Text, Url, File, Node}
use Rattle.sd_value.specs.declared.Value.{Value}
use Rattle.sd_value.specs.declared.Value.TheVariants.{Data, Page}
use Rattle.sd_value.specs.Order.{value_cmp}
use Rattle.sd_value.specs.OrderLaws.{value_cmp-total}
use Rattle.graph_spec.specs.declared.Edge.{Edge}
use Rattle.graph_spec.specs.declared.Member.{Member}
use Rattle.graph_spec.specs.declared.Step.{Step}
use Rattle.graph_spec.specs.DataGraph.{DataGraph, Name, node, IsWellFormed, HasEdge, HasMember}
use Rattle.graph_spec.specs.Orders.{edge_cmp, edge_cmp-total, edge_cmp-exact, member_cmp, member_cmp-total, member_cmp-exact, step_cmp, step_cmp-total}
use Rattle.graph_spec.specs.Steps.{IsStepFrom, IsStepTo, IsStart, IsLabelled, IsMemberValue, IsCountOf}
use Rattle.edit_spec.specs.declared.Edit.{Edit}
use Rattle.edit_spec.specs.declared.Edit.TheVariants.{Add, Remove, Enter, Leave}
use Rattle.live_layers.specs.Items.{HasItem}
use Rattle.live_store.specs.Shift.{Moves, Shift}
use Rattle.live_store.specs.Live.{Layers}
use Rattle.live_store.proofs.ListLaws.{fits}

nothing_moves : Moves ⊥ ⊥ ⊥ ⊥
nothing_moves = record {
  stays = λ p n. p;
  comes = λ c. c;
  was = λ d. d;
  went = λ d q. d;
  is_new = λ c p. c;
  all = λ q. absurd q;
}

-- the same where something else holds too
both_move : {P Q D C K : Type 0} → Moves P Q D C → Moves (P × K) (Q × K) (D × K) (C × K)
both_move m = record {
  stays = λ p n. (m.stays p.0 (λ d. n (d, p.1)), p.1);
  comes = λ c. (m.comes c.0, c.1);
  was = λ d. (m.was d.0, d.1);
  went = λ d q. m.went d.0 q.0;
  is_new = λ c p. m.is_new c.0 p.0;
  all = λ q. elim (m.all q.0) [ inl p ↦ inl (p, q.1) | inr c ↦ inr (c, q.1) ];
}

module _ (B C D : DataGraph) (nodes : List Name) (L : DataGraph) (layers : Layers B C D nodes L) where
  pub edge_moves : (u : Value) (l : Name) (v : Value) → Moves (HasEdge B u l v) (HasEdge L u l v) (HasEdge D u l v) (HasEdge C u l v)
  edge_moves (Data (Node n)) l v = layers.edge_moves (record { from = n; label = l; to = v })
  edge_moves (Data (Int i)) l v = nothing_moves
  edge_moves (Data (Text t)) l v = nothing_moves
  edge_moves (Data (Url t)) l v = nothing_moves
  edge_moves (Data (File t)) l v = nothing_moves
  edge_moves (Page p) l v = nothing_moves

  pub labelled_moves : (l : Name) → Shift (IsLabelled B l) (IsLabelled L l) (IsLabelled D l) (IsLabelled C l)
  labelled_moves l e = both_move (layers.edge_moves e)

  -- what an edit is of
  pub item_moves : (e : Edit) → Moves (HasItem B e) (HasItem L e) (HasItem D e) (HasItem C e)
  item_moves (Add x) = layers.edge_moves x
  item_moves (Remove x) = layers.edge_moves x
  item_moves (Enter m) = layers.member_moves m
  item_moves (Leave m) = layers.member_moves m

  pub named : (n : Name) → Contains L.nodes n ↔ (Contains B.nodes n ⊎ Contains nodes n)
  named n = (
    (layers.node_moves n).all,
    λ h. elim h [ inl b ↦ (layers.node_moves n).stays b (λ d. d) | inr c ↦ (layers.node_moves n).comes c ],
  )

  same_name : {m n : Name} → node m ≡ node n → m ≡ n
  same_name e = cc

  same_member : (G : DataGraph) (collection m n : Name) → m ≡ n → HasMember G collection m → HasMember G collection n
  same_member G collection m n e h = subst (HasMember G collection) e h

  pub member_moves : (collection : Name) → Shift (IsMemberValue B collection) (IsMemberValue L collection)
      (IsMemberValue D collection) (IsMemberValue C collection)
  member_moves collection v = record {
    stays = λ (n, h, e) none. (n, (at n).stays h (λ d. none (n, d, e)), e);
    comes = λ (n, h, e). (n, (at n).comes h, e);
    was = λ (n, h, e). (n, (at n).was h, e);
    went = λ (n, h, e) (m, k, f). (at n).went h (same_member L collection m n (same_name (sym f ∙ e)) k);
    is_new = λ (n, h, e) (m, k, f). (at n).is_new h (same_member B collection m n (same_name (sym f ∙ e)) k);
    all = λ (n, h, e). elim ((at n).all h) [ inl p ↦ inl (n, p, e) | inr c ↦ inr (n, c, e) ];
  }
    where
      at : (n : Name) → Moves (HasMember B collection n) (HasMember L collection n) (HasMember D collection n) (HasMember C collection n)
      at n = layers.member_moves (record { collection = collection; node = n })

-- ---- no more than there are edges, or members

abbrev pub name_of : Value → Name
name_of (Data (Node n)) = n
name_of (Data d) = []
name_of (Page p) = []

abbrev pub edge_at : Value → Name → Value → Edge
edge_at u l v = record { from = name_of u; label = l; to = v }

pub has_edge_at : (L : DataGraph) (u : Value) (l : Name) (v : Value) → HasEdge L u l v → Contains L.edges (edge_at u l v)
has_edge_at L (Data (Node n)) l v h = h
has_edge_at L (Data (Int i)) l v h = absurd h
has_edge_at L (Data (Text t)) l v h = absurd h
has_edge_at L (Data (Url t)) l v h = absurd h
has_edge_at L (Data (File t)) l v h = absurd h
has_edge_at L (Page p) l v h = absurd h

is_node : (L : DataGraph) (u : Value) (l : Name) (v : Value) → HasEdge L u l v → u ≡ node (name_of u)
is_node L (Data (Node n)) l v h = refl
is_node L (Data (Int i)) l v h = absurd h
is_node L (Data (Text t)) l v h = absurd h
is_node L (Data (Url t)) l v h = absurd h
is_node L (Data (File t)) l v h = absurd h
is_node L (Page p) l v h = absurd h

module _ (L : DataGraph) (well : IsWellFormed L) where
  edges_bound : {Y : Type 0} (S : Y → Y → Ordering) → IsTotalOrder S → (P : Y → Type 0) (f : Y → Edge)
      → ((y : Y) → P y → Contains L.edges (f y)) → ((y z : Y) → P y → P z → f y ≡ f z → y ≡ z)
      → (n : ℕ) → IsCountOf S P n → n ≤ length L.edges
  edges_bound S ordered P f within one n (ys, lists, is) =
      let most = fits edge_cmp edge_cmp-total edge_cmp-exact S ordered f ys L.edges lists.ascending well.edges_ascend
      (λ y m. within y (lists.sound y m)) (λ y z a b e. one y z (lists.sound y a) (lists.sound z b) e) in
      omega arith

  pub out_bound : (u : Value) (l : Name) (n : ℕ) → IsCountOf value_cmp (HasEdge L u l) n → n ≤ length L.edges
  out_bound u l n count = edges_bound value_cmp value_cmp-total (HasEdge L u l) (λ v. edge_at u l v)
      (λ v h. has_edge_at L u l v h) (λ v w a b e. ap (λ (k : Edge). k.to) e) n count

  pub start_bound : (v : Value) (l : Name) (n : ℕ) → IsCountOf value_cmp (IsStart L v l) n → n ≤ length L.edges
  start_bound v l n count = edges_bound value_cmp value_cmp-total (IsStart L v l) (λ u. edge_at u l v)
      (λ u h. has_edge_at L u l v h)
      (λ u w a b e. is_node L u l v a ∙ ap (λ (k : Edge). node k.from) e ∙ sym (is_node L w l v b)) n count

  pub from_bound : (u : Value) (n : ℕ) → IsCountOf step_cmp (IsStepFrom L u) n → n ≤ length L.edges
  from_bound u n count = edges_bound step_cmp step_cmp-total (IsStepFrom L u) (λ s. edge_at u s.label s.end)
      (λ s h. has_edge_at L u s.label s.end h)
      (λ s t a b e. same_step s t (ap (λ (k : Edge). k.label) e) (ap (λ (k : Edge). k.to) e)) n count
    where
      same_step : (s t : Step) → s.label ≡ t.label → s.end ≡ t.end → s ≡ t
      same_step s t x y i = record { label = x i; end = y i }

  pub to_bound : (v : Value) (n : ℕ) → IsCountOf step_cmp (IsStepTo L v) n → n ≤ length L.edges
  to_bound v n count = edges_bound step_cmp step_cmp-total (IsStepTo L v) (λ s. edge_at s.end s.label v)
      (λ s h. has_edge_at L s.end s.label v h)
      (λ s t a b e. same_step s t (ap (λ (k : Edge). k.label) e)
      (is_node L s.end s.label v a ∙ ap (λ (k : Edge). node k.from) e ∙ sym (is_node L t.end t.label v b))) n count
    where
      same_step : (s t : Step) → s.label ≡ t.label → s.end ≡ t.end → s ≡ t
      same_step s t x y i = record { label = x i; end = y i }

  pub labelled_bound : (l : Name) (n : ℕ) → IsCountOf edge_cmp (IsLabelled L l) n → n ≤ length L.edges
  labelled_bound l n count = edges_bound edge_cmp edge_cmp-total (IsLabelled L l) (λ e. e)
      (λ e h. h.0) (λ e k a b is. is) n count

  pub members_bound : (collection : Name) (n : ℕ) → IsCountOf value_cmp (IsMemberValue L collection) n
      → n ≤ length L.members
  members_bound collection n (ys, lists, is) =
      let most = fits member_cmp member_cmp-total member_cmp-exact value_cmp value_cmp-total at ys L.members
      lists.ascending well.members_ascend (λ v m. within v (lists.sound v m))
      (λ v w a b e. (named v (lists.sound v a)) ∙ ap (λ (k : Member). node k.node) e ∙ sym (named w (lists.sound w b))) in
      omega arith
    where
      at : Value → Member
      at v = record { collection = collection; node = name_of v }

      named : (v : Value) → IsMemberValue L collection v → v ≡ node (name_of v)
      named v (m, h, e) = e ∙ ap (λ (w : Value). node (name_of w)) (sym e)

      within : (v : Value) → IsMemberValue L collection v → Contains L.members (at v)
      within v (m, h, e) = subst (λ (w : Value). Contains L.members (at w)) (sym e) h
