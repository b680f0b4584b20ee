-- What each query gives of a group's items is what is asked for.
use Rattle.std.specs.Prelude.{◌≡◌, ◌⊎◌, ◌↔◌, ◌<◌, ℕ, zero, suc, IsTrue, List, [], length, Contains}
use Rattle.std.specs.declared.cmp.Ordering.{Ordering}
use Rattle.std.specs.Ordering.{ordering_then}
use Rattle.std.specs.declared.cmp.Ordering.TheVariants.{Equal}
use Rattle.std.proofs.Common.{arith, refl, sym, ap, ◌∙◌, subst, inl, inr, nat_lt}
use Rattle.std.proofs.lemmas.Bool.{ltb-true, lt-ltb}
use Rattle.sd_value.specs.declared.Datum.TheVariants.{Int, Text, Url, File, Node}
use Rattle.sd_value.specs.declared.Value.{Value}
use Rattle.sd_value.specs.declared.Value.TheVariants.{Data, Page}
use Rattle.sd_value.specs.Order.{bytes_cmp, value_cmp}
use Rattle.sd_value.specs.OrderLaws.{bytes_cmp-exact, value_cmp-exact, both_tie}
use Rattle.sd_value.specs.Ascending.{ListsExactly}
use Rattle.graph_spec.specs.declared.Edge.{Edge}
use Rattle.graph_spec.specs.declared.Member.{Member}
use Rattle.graph_spec.specs.declared.Step.{Step}
use Rattle.graph_spec.specs.DataGraph.{DataGraph, Name, node, HasEdge, HasMember}
use Rattle.graph_spec.specs.Orders.{edge_cmp, member_cmp}
use Rattle.graph_spec.specs.Steps.{IsStepFrom, IsStepTo, IsStart, IsLabelled, IsMemberValue}
use Rattle.list_lookup.specs.Picked.{in_place, HasOne}
use Rattle.list_lookup.specs.PickedLaws.{none_in_place, one_in_place}
use Rattle.list_lookup.proofs.Placed.{then_tied, names_tied, values_tied}
use Rattle.edge_queries.specs.Places.{at_start, at_label, at_end, at_start_label, at_edge, at_end_label}
use Rattle.edge_queries.specs.Places.{at_collection, at_member, step_from, step_to}
use Rattle.live_layers.proofs.GroupLaws.{same_node}
use Rattle.live_layers.proofs.PickLaws.{Gives}

-- an edge of a graph, as a query meets it
record IsEdge (G : DataGraph) (u : Value) (label : Name) (v : Value) (e : Edge) : Type 0 where
  pub at : Contains G.edges e
  pub start : node e.from ≡ u
  pub label_is : e.label ≡ label
  pub end_is : e.to ≡ v

edge_of : (G : DataGraph) (u : Value) (label : Name) (v : Value) → HasEdge G u label v → (e : Edge)
    × IsEdge G u label v e
edge_of G (Data (Node n)) label v h = (
  record { from = n; label = label; to = v },
  record { at = h; start = refl; label_is = refl; end_is = refl },
)
edge_of G (Data d) label v h = absurd h
edge_of G (Page p) label v h = absurd h

edge_is : (G : DataGraph) (u : Value) (label : Name) (v : Value) (e : Edge) → IsEdge G u label v e
    → HasEdge G u label v
edge_is G u label v e h =
    let one : HasEdge G (node e.from) e.label e.to = h.at in
    subst (λ x. HasEdge G x label v) h.start (subst (λ l. HasEdge G (node e.from) l v) h.label_is
    (subst (HasEdge G (node e.from) e.label) h.end_is one))

one_edge : (x y : Edge) → x.from ≡ y.from → x.label ≡ y.label → x.to ≡ y.to → x ≡ y
one_edge x y f l t i = record { from = f i; label = l i; to = t i }

one_step : (s t : Step) → s.label ≡ t.label → s.end ≡ t.end → s ≡ t
one_step s t l e i = record { label = l i; end = e i }

zero_or_more : (n : ℕ) → (n ≡ 0) ⊎ (0 < n)
zero_or_more zero = inl refl
zero_or_more (suc n) = inr (omega arith)

-- something lies in a place where more than none do
some_there : {X : Type 0} (place : X → Ordering) (xs : List X) (P : Type 0) → (HasOne place xs → P) → (P → HasOne place xs)
    → (n : ℕ) → n ≡ length (in_place place xs) → IsTrue (nat_lt 0 n) ↔ P
some_there place xs P to from n is = (
  λ yes. to (one_in_place place xs (λ none. absurd (omega (arith, ltb-true 0 n yes, is, none)))),
  λ p. elim (zero_or_more n) [
    | inl z ↦ absurd (none_in_place place xs (sym is ∙ z) (from p))
    | inr more ↦ lt-ltb 0 n more
  ],
)

module _ (G : DataGraph) (xs : List Edge) where
  module _ (u : Value) (lists : ListsExactly edge_cmp (λ (e : Edge). Contains G.edges e × (node e.from ≡ u)) xs) where
    starts : (x y : Edge) → Contains xs x → Contains xs y → x.from ≡ y.from
    starts x y a b = same_node ((lists.sound x a).1 ∙ sym (lists.sound y b).1)

    pub from_placed : (x : Edge) → Contains xs x → at_start u x ≡ Equal
    from_placed x m = values_tied (node x.from) u (lists.sound x m).1

    pub gives_out : (l : Name) → Gives (at_start_label u l) (λ (e : Edge). e.to) (HasEdge G u l) xs
    gives_out l = record {
      sound = λ x m placed.
          let p = both_tie (at_start u x) (at_label l x) placed in
          let h = lists.sound x m in
          edge_is G u l x.to x
          (record { at = h.0; start = h.1; label_is = bytes_cmp-exact x.label l p.1; end_is = refl });
      complete = λ v h. let (e, is) = edge_of G u l v h in (
        e,
        lists.complete e (is.at, is.start),
        then_tied (at_start u e) (at_label l e) (values_tied (node e.from) u is.start)
            (names_tied e.label l is.label_is),
        is.end_is,
      );
      one = λ x y a b p q same. one_edge x y (starts x y a b)
          (bytes_cmp-exact x.label l (both_tie (at_start u x) (at_label l x) p).1
          ∙ sym (bytes_cmp-exact y.label l (both_tie (at_start u y) (at_label l y) q).1)) same;
    }

    pub gives_out_all : Gives (at_start u) step_from (IsStepFrom G u) xs
    gives_out_all = record {
      sound = λ x m placed. let h = lists.sound x m in
          edge_is G u x.label x.to x (record { at = h.0; start = h.1; label_is = refl; end_is = refl });
      complete = λ s h. let (e, is) = edge_of G u s.label s.end h in (
        e,
        lists.complete e (is.at, is.start),
        values_tied (node e.from) u is.start,
        one_step (step_from e) s is.label_is is.end_is,
      );
      one = λ x y a b p q same. one_edge x y (starts x y a b) (ap (λ (s : Step). s.label) same)
          (ap (λ (s : Step). s.end) same);
    }

    pub has_edge_counted : (l : Name) (v : Value) (n : ℕ) → n ≡ length (in_place (at_edge u l v) xs)
        → IsTrue (nat_lt 0 n) ↔ HasEdge G u l v
    has_edge_counted l v n is = some_there (at_edge u l v) xs (HasEdge G u l v)
        (λ (x, m, placed).
        (let p = both_tie (at_start u x) (ordering_then (at_label l x) (at_end v x)) placed in
        let q = both_tie (at_label l x) (at_end v x) p.1 in
        let h = lists.sound x m in
        edge_is G u l v x (record {
          at = h.0;
          start = h.1;
          label_is = bytes_cmp-exact x.label l q.0;
          end_is = value_cmp-exact x.to v q.1;
        })))
        (λ h. let (e, is) = edge_of G u l v h in (
          e,
          lists.complete e (is.at, is.start),
          then_tied (at_start u e) (ordering_then (at_label l e) (at_end v e)) (values_tied (node e.from) u is.start)
              (then_tied (at_label l e) (at_end v e) (names_tied e.label l is.label_is) (values_tied e.to v is.end_is)),
        ))
        n is

  module _ (v : Value) (lists : ListsExactly edge_cmp (λ (e : Edge). Contains G.edges e × (e.to ≡ v)) xs) where
    ends : (x y : Edge) → Contains xs x → Contains xs y → x.to ≡ y.to
    ends x y a b = (lists.sound x a).1 ∙ sym (lists.sound y b).1

    pub to_placed : (x : Edge) → Contains xs x → at_end v x ≡ Equal
    to_placed x m = values_tied x.to v (lists.sound x m).1

    pub gives_incoming : Gives (at_end v) step_to (IsStepTo G v) xs
    gives_incoming = record {
      sound = λ x m placed. let h = lists.sound x m in
          edge_is G (node x.from) x.label v x (record { at = h.0; start = refl; label_is = refl; end_is = h.1 });
      complete = λ s h. let (e, is) = edge_of G s.end s.label v h in (
        e,
        lists.complete e (is.at, is.end_is),
        values_tied e.to v is.end_is,
        one_step (step_to e) s is.label_is is.start,
      );
      one = λ x y a b p q same. one_edge x y (same_node (ap (λ (s : Step). s.end) same))
          (ap (λ (s : Step). s.label) same) (ends x y a b);
    }

    pub gives_incoming_by : (l : Name) → Gives (at_end_label v l) (λ (e : Edge). node e.from) (IsStart G v l) xs
    gives_incoming_by l = record {
      sound = λ x m placed.
          let p = both_tie (at_end v x) (at_label l x) placed in
          let h = lists.sound x m in
          edge_is G (node x.from) l v x
          (record { at = h.0; start = refl; label_is = bytes_cmp-exact x.label l p.1; end_is = h.1 });
      complete = λ u h. let (e, is) = edge_of G u l v h in (
        e,
        lists.complete e (is.at, is.end_is),
        then_tied (at_end v e) (at_label l e) (values_tied e.to v is.end_is)
            (names_tied e.label l is.label_is),
        is.start,
      );
      one = λ x y a b p q same. one_edge x y (same_node same)
          (bytes_cmp-exact x.label l (both_tie (at_end v x) (at_label l x) p).1
          ∙ sym (bytes_cmp-exact y.label l (both_tie (at_end v y) (at_label l y) q).1)) (ends x y a b);
    }

  module _ (l : Name) (lists : ListsExactly edge_cmp (λ (e : Edge). Contains G.edges e × (e.label ≡ l)) xs) where
    pub labelled_placed : (x : Edge) → Contains xs x → at_label l x ≡ Equal
    labelled_placed x m = names_tied x.label l (lists.sound x m).1

    pub gives_labelled : Gives (at_label l) (λ (e : Edge). e) (IsLabelled G l) xs
    gives_labelled = record {
      sound = λ x m placed. lists.sound x m;
      complete = λ e h. (e, lists.complete e h, names_tied e.label l h.1, refl);
      one = λ x y a b p q same. same;
    }

module _ (G : DataGraph) (xs : List Member) (c : Name)
    (lists : ListsExactly member_cmp (λ (m : Member). Contains G.members m × (m.collection ≡ c)) xs) where
  pub member_placed : (x : Member) → Contains xs x → at_collection c x ≡ Equal
  member_placed x m = names_tied x.collection c (lists.sound x m).1

  one_member : (x y : Member) → x.collection ≡ y.collection → x.node ≡ y.node → x ≡ y
  one_member x y s t i = record { collection = s i; node = t i }

  member_at : (n : Name) → HasMember G c n → Contains xs (record { collection = c; node = n })
  member_at n h = lists.complete (record { collection = c; node = n }) (h, refl)

  member_in : (x : Member) → Contains xs x → HasMember G c x.node
  member_in x m = let h = lists.sound x m in subst (λ k. HasMember G k x.node) h.1 h.0

  pub gives_members : Gives (at_collection c) (λ (m : Member). node m.node) (IsMemberValue G c) xs
  gives_members = record {
    sound = λ x m placed. (x.node, member_in x m, refl);
    complete = λ v (n, h, is). (record { collection = c; node = n }, member_at n h, names_tied c c refl, sym is);
    one = λ x y a b p q same. one_member x y ((lists.sound x a).1 ∙ sym (lists.sound y b).1) (same_node same);
  }

  pub is_member_counted : (v : Value) (n : ℕ) → n ≡ length (in_place (at_member c v) xs)
      → IsTrue (nat_lt 0 n) ↔ IsMemberValue G c v
  is_member_counted v n is = some_there (at_member c v) xs (IsMemberValue G c v)
      (λ (x, m, placed). (let p = both_tie (at_collection c x) (value_cmp (node x.node) v) placed in
      (x.node, member_in x m, sym (value_cmp-exact (node x.node) v p.1))))
      (λ (n, h, is). (
        record { collection = c; node = n },
        member_at n h,
        then_tied (bytes_cmp c c) (value_cmp (node n) v) (names_tied c c refl) (values_tied (node n) v (sym is)),
      ))
      n is
