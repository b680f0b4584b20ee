-- What each query picks from the edges and members of a graph is exactly what is asked for, in its order.
use Rattle.std.specs.Prelude.{◌≡◌, ℕ, List, length, Contains}
use Rattle.std.specs.declared.cmp.Ordering.{Ordering}
use Rattle.std.specs.declared.cmp.Ordering.TheVariants.{Equal}
use Rattle.std.specs.Ordering.{on, then_cmp, ordering_then}
use Rattle.std.specs.Cmp.{IsTotalOrder}
use Rattle.std.specs.List.Sorted.{IsStrictlySortedBy}
use Rattle.std.proofs.Common.{refl, sym, ap, ◌∙◌, subst}
use Rattle.std.proofs.lemmas.List.{length-map}
use Rattle.std.proofs.lemmas.Cmp.{on_total, then_total}
use Rattle.sd_value.specs.declared.Datum.TheVariants.{Node}
use Rattle.sd_value.specs.declared.Value.{Value}
use Rattle.sd_value.specs.declared.Value.TheVariants.{Data, Page}
use Rattle.sd_value.specs.Order.{bytes_cmp, datum_cmp, value_cmp}
use Rattle.sd_value.specs.OrderLaws.{bytes_cmp-total, bytes_cmp-exact, value_cmp-total, value_cmp-exact, both_tie}
use Rattle.sd_value.specs.Ascending.{ListsExactly}
use Rattle.graph_spec.specs.DataGraph.{DataGraph, Name, node, HasEdge, HasMember, IsWellFormed}
use Rattle.graph_spec.specs.Orders.{edge_cmp, member_cmp, step_cmp}
use Rattle.graph_spec.specs.Steps.{IsStepFrom, IsStepTo, IsStart, IsLabelled, IsMemberValue, IsCountOf}
use Rattle.graph_spec.specs.declared.Edge.{Edge}
use Rattle.graph_spec.specs.declared.Member.{Member}
use Rattle.graph_spec.specs.declared.Step.{Step}
use Rattle.list_lookup.specs.Picked.{picked, in_place, IsPlaced, HasOne}
use Rattle.list_lookup.specs.PickedLaws.{picked-lists, picked-sound, picked-complete}
use Rattle.list_lookup.proofs.Placed.{then_tied, after_tie, first_not_above, two_not_above, not_both, names_tied, values_tied, placed}
use Rattle.edge_queries.specs.Places.{at_start, at_label, at_end, at_start_label, at_edge, at_end_label}
use Rattle.edge_queries.specs.Places.{at_collection, at_member, step_from, step_to}
use Rattle.edge_queries.specs.Ordered.{by_end_cmp, by_label_cmp}

-- nodes are in the order of their names
node_order : (m n : Name) → value_cmp (node m) (node n) ≡ bytes_cmp m n
unfolding value_cmp datum_cmp
node_order m n = refl

node_name : (m n : Name) → node m ≡ node n → m ≡ n
node_name m n e = cc

-- the orders of a value and a label, of an edge's three parts, and of a collection and a value
abbrev pair_cmp : Value × Name → Value × Name → Ordering
pair_cmp = then_cmp (on (λ p. p.0) value_cmp) (on (λ p. p.1) bytes_cmp)

pair_cmp-total : IsTotalOrder pair_cmp
pair_cmp-total = then_total (on_total (λ p. p.0) value_cmp-total)
    (on_total (λ p. p.1) bytes_cmp-total)

abbrev three_cmp : Value × (Name × Value) → Value × (Name × Value) → Ordering
three_cmp = then_cmp (on (λ p. p.0) value_cmp)
    (then_cmp (on (λ p. p.1.0) bytes_cmp) (on (λ p. p.1.1) value_cmp))

three_cmp-total : IsTotalOrder three_cmp
three_cmp-total = then_total (on_total (λ p. p.0) value_cmp-total)
    (then_total (on_total (λ p. p.1.0) bytes_cmp-total) (on_total (λ p. p.1.1) value_cmp-total))

abbrev member_key_cmp : Name × Value → Name × Value → Ordering
member_key_cmp = then_cmp (on (λ p. p.0) bytes_cmp) (on (λ p. p.1) value_cmp)

member_key_cmp-total : IsTotalOrder member_key_cmp
member_key_cmp-total = then_total (on_total (λ p. p.0) bytes_cmp-total)
    (on_total (λ p. p.1) value_cmp-total)

starts : (e : Edge) (d : Edge) → value_cmp (node e.from) (node d.from) ≡ bytes_cmp e.from d.from
starts e d = node_order e.from d.from

-- edges in their order are ordered by their start
pub placed-start : (u : Value) (es : List Edge) → IsStrictlySortedBy edge_cmp es
    → IsPlaced (at_start u) es
placed-start u es up =
    placed edge_cmp value_cmp value_cmp-total (λ e. node e.from) u es
    (λ x y h k. first_not_above (bytes_cmp x.from y.from) _ h (sym (starts x y) ∙ k)) up

-- and by start and label
pub placed-start_label : (u : Value) (label : Name) (es : List Edge) → IsStrictlySortedBy edge_cmp
    es → IsPlaced (at_start_label u label) es
placed-start_label u label es up =
    placed edge_cmp pair_cmp pair_cmp-total (λ e. (node e.from, e.label)) (u, label) es
    (λ x y h k. two_not_above (bytes_cmp x.from y.from) (bytes_cmp x.label y.label)
    (value_cmp x.to y.to) h
    (ap (λ r. ordering_then r (bytes_cmp x.label y.label)) (sym (starts x y)) ∙ k)) up

-- and as whole edges
pub placed-edge : (u : Value) (label : Name) (v : Value) (es : List Edge) → IsStrictlySortedBy
    edge_cmp es → IsPlaced (at_edge u label v) es
placed-edge u label v es up =
    placed edge_cmp three_cmp three_cmp-total (λ e. (node e.from, (e.label, e.to))) (u, (label, v))
    es
    (λ x y h k. not_both (edge_cmp x y) h
    (ap (λ r. ordering_then r (ordering_then (bytes_cmp x.label y.label) (value_cmp x.to y.to)))
    (sym (starts x y)) ∙ k)) up

-- edges in the order of their ends are ordered by their end
pub placed-end : (v : Value) (bs : List Edge) → IsStrictlySortedBy by_end_cmp bs
    → IsPlaced (at_end v) bs
placed-end v bs up =
    placed by_end_cmp value_cmp value_cmp-total (λ e. e.to) v bs
    (λ x y h k. first_not_above (value_cmp x.to y.to) _ h k) up

-- and by end and label
pub placed-end_label : (v : Value) (label : Name) (bs : List Edge) → IsStrictlySortedBy by_end_cmp
    bs → IsPlaced (at_end_label v label) bs
placed-end_label v label bs up =
    placed by_end_cmp pair_cmp pair_cmp-total (λ e. (e.to, e.label)) (v, label) bs
    (λ x y h k. two_not_above (value_cmp x.to y.to) (bytes_cmp x.label y.label) _ h k) up

-- edges in the order of their labels are ordered by their label
pub placed-label : (label : Name) (bs : List Edge) → IsStrictlySortedBy by_label_cmp bs
    → IsPlaced (at_label label) bs
placed-label label bs up =
    placed by_label_cmp bytes_cmp bytes_cmp-total (λ e. e.label) label bs
    (λ x y h k. first_not_above (bytes_cmp x.label y.label) _ h k) up

-- members in their order are ordered by their collection
pub placed-collection : (collection : Name) (ms : List Member) → IsStrictlySortedBy member_cmp ms
    → IsPlaced (at_collection collection) ms
placed-collection collection ms up =
    placed member_cmp bytes_cmp bytes_cmp-total (λ m. m.collection) collection ms
    (λ x y h k. first_not_above (bytes_cmp x.collection y.collection) _ h k) up

-- and by collection and node
pub placed-member : (collection : Name) (v : Value) (ms : List Member) → IsStrictlySortedBy
    member_cmp ms → IsPlaced (at_member collection v) ms
placed-member collection v ms up =
    placed member_cmp member_key_cmp member_key_cmp-total (λ m. (m.collection, node m.node))
    (collection, v) ms
    (λ x y h k. not_both (member_cmp x y) h
    (ap (ordering_then (bytes_cmp x.collection y.collection)) (sym (node_order x.node y.node))
    ∙ k)) up

-- An edge of a graph, as a query meets it.
record IsEdge (G : DataGraph) (u : Value) (label : Name) (v : Value) (e : Edge) : Type 0 where
  pub at : Contains G.edges e
  pub start : node e.from ≡ u
  pub label_is : e.label ≡ label
  pub end_is : e.to ≡ v

edge_of : (G : DataGraph) (u : Value) (label : Name) (v : Value) → HasEdge G u label v → (e : Edge)
    × IsEdge G u label v e
edge_of G (Data (Node n)) label v h = (
  record { from = n; label = label; to = v },
  record
      { at = h; start = refl; label_is = refl; end_is = refl },
)
edge_of G (Data d) label v h = absurd h
edge_of G (Page p) label v h = absurd h

edge_is : (G : DataGraph) (u : Value) (label : Name) (v : Value) (e : Edge) → IsEdge G u label v e
    → HasEdge G u label v
edge_is G u label v e h =
    let one : HasEdge G (node e.from) e.label e.to = h.at in
    subst (λ x. HasEdge G x label v) h.start (subst (λ l. HasEdge G (node e.from) l v) h.label_is
    (subst (HasEdge G (node e.from) e.label) h.end_is one))

-- the two facts of a tie of a start and a label, and the like
start_of_tie : (u : Value) (e : Edge) → at_start u e ≡ Equal → node e.from ≡ u
start_of_tie u e h = value_cmp-exact (node e.from) u h

module _ (G : DataGraph) (well : IsWellFormed G) where
  pub lists-out_all : (u : Value) → ListsExactly step_cmp (IsStepFrom G u)
      (picked (at_start u) step_from G.edges)
  lists-out_all u =
      picked-lists edge_cmp step_cmp (at_start u) step_from (IsStepFrom G u) G.edges
      (record {
        at = λ x y h k less.
            let same : x.from ≡ y.from = node_name x.from y.from
            (start_of_tie u x h ∙ sym (start_of_tie u y k)) in
            sym (after_tie (bytes_cmp x.from y.from) _ (names_tied x.from y.from same)) ∙ less;
      })
      well.edges_ascend
      (λ e at h. edge_is G u e.label e.to e
      (record { at = at; start = start_of_tie u e h; label_is = refl; end_is = refl }))
      (λ s has. let (e, is) = edge_of G u s.label s.end has in (
        e,
        is.at,
        values_tied (node e.from) u is.start,
        let l = is.label_is in let t = is.end_is in
            λ i. record { label = l i; end = t i },
      ))

  pub lists-out : (u : Value) (label : Name) → ListsExactly value_cmp (HasEdge G u label)
      (picked (at_start_label u label) (λ e. e.to) G.edges)
  lists-out u label =
      picked-lists edge_cmp value_cmp (at_start_label u label) (λ e. e.to) (HasEdge G u label)
      G.edges
      (record {
        at = λ x y h k less.
            let p = both_tie (at_start u x) _ h in let q = both_tie (at_start u y) _ k in
            let starts_same : x.from ≡ y.from = node_name x.from y.from
            (start_of_tie u x p.0 ∙ sym (start_of_tie u y q.0)) in
            let labels_same : x.label ≡ y.label = bytes_cmp-exact x.label label p.1
            ∙ sym (bytes_cmp-exact y.label label q.1) in
            sym (after_tie (bytes_cmp x.from y.from) _ (names_tied x.from y.from starts_same)
            ∙ after_tie (bytes_cmp x.label y.label) _ (names_tied x.label y.label labels_same))
            ∙ less;
      })
      well.edges_ascend
      (λ e at h. let p = both_tie (at_start u e) _ h in
      edge_is G u label e.to e
      (record {
        at = at;
        start = start_of_tie u e p.0;
        label_is = bytes_cmp-exact e.label label
            p.1;
        end_is = refl;
      }))
      (λ v has. let (e, is) = edge_of G u label v has in (
        e,
        is.at,
        then_tied (at_start u e) (at_label label e) (values_tied (node e.from) u is.start)
            (names_tied e.label label is.label_is),
        is.end_is,
      ))

  pub lists-labelled : (label : Name) → ListsExactly edge_cmp (IsLabelled G label)
      (picked (at_label label) (λ e. e) G.edges)
  lists-labelled label =
      picked-lists edge_cmp edge_cmp (at_label label) (λ e. e) (IsLabelled G label) G.edges
      (record { at = λ x y h k less. less })
      well.edges_ascend
      (λ e at h. (at, bytes_cmp-exact e.label label h))
      (λ e has. (e, has.0, names_tied e.label label has.1, refl))

  pub lists-members : (collection : Name) → ListsExactly value_cmp (IsMemberValue G collection)
      (picked (at_collection collection) (λ m. node m.node) G.members)
  lists-members collection =
      picked-lists member_cmp value_cmp (at_collection collection) (λ m. node m.node)
      (IsMemberValue G collection) G.members
      (record {
        at = λ x y h k less.
            let same : x.collection ≡ y.collection = bytes_cmp-exact x.collection collection h
            ∙ sym (bytes_cmp-exact y.collection collection k) in
            node_order x.node y.node
            ∙ sym (after_tie (bytes_cmp x.collection y.collection) _
            (names_tied x.collection y.collection same)) ∙ less;
      })
      well.members_ascend
      (λ m at h. (
        m.node,
        subst (λ c. HasMember G c m.node)
            (bytes_cmp-exact m.collection collection h) at,
        refl,
      ))
      (λ v (n, has, is). (
        record { collection = collection; node = n },
        has,
        names_tied collection
            collection refl,
        sym is,
      ))

  -- from the edges in any order
  pub picks-incoming : (v : Value) (s : Step)
      → (Contains (picked (at_end v) step_to G.edges) s → IsStepTo G v s)
      × (IsStepTo G v s → Contains (picked (at_end v) step_to G.edges) s)
  picks-incoming v s = (
    picked-sound (at_end v) step_to (IsStepTo G v) G.edges sound s,
    picked-complete (at_end v)
        step_to (IsStepTo G v) G.edges complete s,
  )
    where
      sound : (e : Edge) → Contains G.edges e → at_end v e ≡ Equal → IsStepTo G v (step_to e)
      sound e at h = edge_is G (node e.from) e.label v e
          (record { at = at; start = refl; label_is = refl; end_is = value_cmp-exact e.to v h })

      complete : (s : Step) → IsStepTo G v s → (e : Edge) × Contains G.edges e
          × (at_end v e ≡ Equal) × (step_to e ≡ s)
      complete s has = let (e, is) = edge_of G s.end s.label v has in (
        e,
        is.at,
        values_tied e.to v is.end_is,
        let l = is.label_is in let t = is.start in λ i.
            record { label = l i; end = t i },
      )

  pub picks-incoming_by : (v : Value) (label : Name) (u : Value)
      → (Contains (picked (at_end_label v label) (λ e. node e.from) G.edges) u
      → IsStart G v label u)
      × (IsStart G v label u → Contains (picked (at_end_label v label) (λ e. node e.from) G.edges)
      u)
  picks-incoming_by v label u = (
    picked-sound (at_end_label v label) (λ e. node e.from) (IsStart G v label) G.edges sound u,
    picked-complete (at_end_label v label) (λ e. node e.from) (IsStart G v label) G.edges
        complete u,
  )
    where
      sound : (e : Edge) → Contains G.edges e → at_end_label v label e ≡ Equal → IsStart G v label
          (node e.from)
      sound e at h = let p = both_tie (at_end v e) _ h in
          edge_is G (node e.from) label v e
          (record {
            at = at;
            start = refl;
            label_is = bytes_cmp-exact e.label label p.1;
            end_is = value_cmp-exact e.to v p.0;
          })

      complete : (u : Value) → IsStart G v label u → (e : Edge) × Contains G.edges e
          × (at_end_label v label e ≡ Equal) × (node e.from ≡ u)
      complete u has = let (e, is) = edge_of G u label v has in (
        e,
        is.at,
        then_tied (at_end v e) (at_label label e) (values_tied e.to v is.end_is)
            (names_tied e.label label is.label_is),
        is.start,
      )

  -- from the edges by their ends
  module _ (bs : List Edge) (all : ListsExactly by_end_cmp (Contains G.edges) bs) where
    pub lists-incoming : (v : Value) → ListsExactly step_cmp (IsStepTo G v)
        (picked (at_end v) step_to bs)
    lists-incoming v =
        picked-lists by_end_cmp step_cmp (at_end v) step_to (IsStepTo G v) bs
        (record {
          at = λ x y h k less.
              let same : x.to ≡ y.to = value_cmp-exact x.to v h ∙ sym (value_cmp-exact y.to v k) in
              ap (ordering_then (bytes_cmp x.label y.label)) (node_order x.from y.from)
              ∙ sym (after_tie (value_cmp x.to y.to) _ (values_tied x.to y.to same)) ∙ less;
        })
        all.ascending
        (λ b at h. edge_is G (node b.from) b.label v b
        (record {
          at = all.sound b at;
          start = refl;
          label_is = refl;
          end_is = value_cmp-exact
              b.to v h;
        }))
        (λ s has. let (e, is) = edge_of G s.end s.label v has in (
          e,
          all.complete e is.at,
          values_tied e.to v is.end_is,
          let l = is.label_is in let t =
              is.start in λ i. record { label = l i; end = t i },
        ))

    pub lists-incoming_by : (v : Value) (label : Name) → ListsExactly value_cmp (IsStart G v label)
        (picked (at_end_label v label) (λ e. node e.from) bs)
    lists-incoming_by v label =
        picked-lists by_end_cmp value_cmp (at_end_label v label) (λ e. node e.from)
        (IsStart G v label) bs
        (record {
          at = λ x y h k less.
              let p = both_tie (at_end v x) _ h in let q = both_tie (at_end v y) _ k in
              let ends_same : x.to ≡ y.to = value_cmp-exact x.to v p.0
              ∙ sym (value_cmp-exact y.to v q.0) in
              let labels_same : x.label ≡ y.label = bytes_cmp-exact x.label label p.1
              ∙ sym (bytes_cmp-exact y.label label q.1) in
              node_order x.from y.from
              ∙ sym (after_tie (value_cmp x.to y.to) _ (values_tied x.to y.to ends_same)
              ∙ after_tie (bytes_cmp x.label y.label) _
              (names_tied x.label y.label labels_same)) ∙ less;
        })
        all.ascending
        (λ b at h. let p = both_tie (at_end v b) _ h in
        edge_is G (node b.from) label v b
        (record {
          at = all.sound b at;
          start = refl;
          label_is = bytes_cmp-exact b.label label
              p.1;
          end_is = value_cmp-exact b.to v p.0;
        }))
        (λ u has. let (e, is) = edge_of G u label v has in (
          e,
          all.complete e is.at,
          then_tied (at_end v e) (at_label label e)
              (values_tied e.to v is.end_is) (names_tied e.label label is.label_is),
          is.start,
        ))

  -- from the edges by their labels
  pub lists-by_label : (bs : List Edge) → ListsExactly by_label_cmp (Contains G.edges) bs
      → (label : Name) → ListsExactly edge_cmp (IsLabelled G label)
      (picked (at_label label) (λ e. e) bs)
  lists-by_label bs all label =
      picked-lists by_label_cmp edge_cmp (at_label label) (λ e. e) (IsLabelled G label) bs
      (record {
        at = λ x y h k less.
            let same : x.label ≡ y.label = bytes_cmp-exact x.label label h
            ∙ sym (bytes_cmp-exact y.label label k) in
            let tied = names_tied x.label y.label same in
            ap (ordering_then (bytes_cmp x.from y.from))
            (after_tie (bytes_cmp x.label y.label) (value_cmp x.to y.to) tied)
            ∙ sym (after_tie (bytes_cmp x.label y.label) _ tied) ∙ less;
      })
      all.ascending
      (λ b at h. (all.sound b at, bytes_cmp-exact b.label label h))
      (λ e has. (e, all.complete e has.0, names_tied e.label label has.1, refl))

-- one edge, and one member
pub edge_found : (G : DataGraph) (u : Value) (label : Name) (v : Value)
    → (HasOne (at_edge u label v) G.edges → HasEdge G u label v)
    × (HasEdge G u label v → HasOne (at_edge u label v) G.edges)
edge_found G u label v = (
  λ (e, at, h). let p = both_tie (at_start u e) _ h in let q = both_tie (at_label label e) _ p.1 in
      edge_is G u label v e
      (record {
        at = at;
        start = start_of_tie u e p.0;
        label_is = bytes_cmp-exact e.label label
            q.0;
        end_is = value_cmp-exact e.to v q.1;
      }),
  λ has. let (e, is) = edge_of G u label v has in (
    e,
    is.at,
    then_tied (at_start u e) _ (values_tied (node e.from) u is.start)
        (then_tied (at_label label e) _ (names_tied e.label label is.label_is)
        (values_tied e.to v is.end_is)),
  ),
)

-- and one member
pub member_found : (G : DataGraph) (collection : Name) (v : Value)
    → (HasOne (at_member collection v) G.members → IsMemberValue G collection v)
    × (IsMemberValue G collection v → HasOne (at_member collection v) G.members)
member_found G collection v = (
  λ (m, at, h). let p = both_tie (at_collection collection m) _ h in (
    m.node,
    subst (λ c. HasMember G c m.node) (bytes_cmp-exact m.collection collection p.0) at,
    sym (value_cmp-exact (node m.node) v p.1),
  ),
  λ (n, has, is). (
    record { collection = collection; node = n },
    has,
    then_tied
        (bytes_cmp collection collection) _ (names_tied collection collection refl)
        (values_tied (node n) v (sym is)),
  ),
)

-- a value in an ascending list, and a name
pub placed-value : (v : Value) (vs : List Value) → IsStrictlySortedBy value_cmp vs
    → IsPlaced (λ w. value_cmp w v) vs
placed-value v vs up = placed value_cmp value_cmp value_cmp-total (λ w. w) v vs
    (λ x y h k. not_both (value_cmp x y) h k) up

-- names in their order
pub placed-name : (n : Name) (ns : List Name) → IsStrictlySortedBy bytes_cmp ns
    → IsPlaced (λ m. bytes_cmp m n) ns
placed-name n ns up = placed bytes_cmp bytes_cmp bytes_cmp-total (λ m. m) n ns
    (λ x y h k. not_both (bytes_cmp x y) h k) up

-- a value is found where it is one of all
pub value_found : {P : Value → Type 0} (v : Value) (vs : List Value) → ListsExactly value_cmp P vs
    → (HasOne (λ w. value_cmp w v) vs → P v) × (P v → HasOne (λ w. value_cmp w v) vs)
value_found {P} v vs all = (
  λ (w, at, h). subst P (value_cmp-exact w v h) (all.sound w at),
  λ p.
      (v, all.complete v p, values_tied v v refl),
)

-- and a name
pub name_found : {P : Name → Type 0} (n : Name) (ns : List Name) → ListsExactly bytes_cmp P ns
    → (HasOne (λ m. bytes_cmp m n) ns → P n) × (P n → HasOne (λ m. bytes_cmp m n) ns)
name_found {P} n ns all = (
  λ (m, at, h). subst P (bytes_cmp-exact m n h) (all.sound m at),
  λ p.
      (n, all.complete n p, names_tied n n refl),
)

-- the same list, and its length
pub listed-is : {X : Type 0} {R : X → X → Ordering} {P : X → Type 0} (xs ys : List X) → xs ≡ ys
    → ListsExactly R P ys → ListsExactly R P xs
listed-is {X} {R} {P} xs ys same all = subst (ListsExactly R P) (sym same) all

-- the number of items in their place is the count of what they give
pub counted : {X Y : Type 0} {R : Y → Y → Ordering} {P : Y → Type 0} (place : X → Ordering)
    (gives : X → Y) (xs : List X) (n : ℕ)
    → n ≡ length (in_place place xs) → ListsExactly R P (picked place gives xs) → IsCountOf R P n
counted place gives xs n is all = (
  picked place gives xs,
  all,
  length-map (in_place place xs) gives
      ∙ sym is,
)
