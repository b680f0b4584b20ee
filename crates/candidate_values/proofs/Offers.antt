-- Laws of what a condition offers.
use Rattle.std.proofs.Common.{◌≡◌, ℕ, List, map, refl, sym, subst}
use Rattle.std.specs.Prelude.{◌↔◌, Contains, Bool, true, false, IsTrue, Option, None, Some, slice_get}
use Rattle.sd_value.specs.declared.Datum.TheVariants.{Text, Node}
use Rattle.sd_value.specs.declared.Value.{Value}
use Rattle.sd_value.specs.declared.Value.TheVariants.{Data}
use Rattle.sd_value.specs.Ascending.{ListsExactly}
use Rattle.sd_value.specs.Order.{bytes_cmp, value_cmp}
use Rattle.graph_spec.specs.DataGraph.{DataGraph, node, text, HasEdge, IsLabelOf}
use Rattle.condition_tests.specs.declared.literal.Slot.{Slot}
use Rattle.condition_tests.specs.declared.literal.Slot.TheVariants.{Variable}
use Rattle.condition_tests.specs.declared.literal.Property.{Property}
use Rattle.condition_tests.specs.declared.literal.Relation.{Relation}
use Rattle.condition_tests.specs.declared.literal.Atom.{Atom}
use Rattle.condition_tests.specs.declared.literal.Atom.TheVariants.{One, Two, Arc}
use Rattle.condition_tests.specs.Known.{Agrees, IsCandidate, is_arc}
use Rattle.condition_tests.specs.Places.{IsKnown}
use Rattle.condition_tests.specs.Meaning.{Stands, Has, HasArc, Relates, AtomHolds}
use Rattle.candidate_values.specs.Offers.{IsListOf, IsOffer, Lists, IsSettled}
use Rattle.graph_spec.specs.declared.Step.{Step}
use Rattle.graph_spec.specs.declared.Edge.{Edge as GraphEdge}
use Rattle.graph_spec.specs.Orders.{step_cmp, edge_cmp}
use Rattle.graph_spec.specs.Steps.{IsStepFrom, IsStepTo, IsLabelled}
use Rattle.query_spec.specs.Holds.{IsEqual}
use Rattle.condition_tests.proofs.Equal.{equal_turned}
use Rattle.condition_tests.specs.declared.literal.Relation.TheVariants.{Edge}
use Rattle.condition_tests.proofs.Decided.{known_stands, same_standing}
use Rattle.candidate_values.proofs.Parts.{Contains-map, from_map}

pub labels_are_domain : (G : DataGraph) (labels : List (List ℕ)) (values : List Value) (arc : Bool) → arc ≡ true → ListsExactly bytes_cmp (IsLabelOf G) labels → values ≡ map text labels → IsListOf (IsCandidate G arc) values
labels_are_domain G labels values false e h m = cc
labels_are_domain G labels values true e h m = record {
  sound = λ v c. (let r = from_map text labels v (subst (λ xs. Contains xs v) m c) in (r.0, h.sound r.0 r.1, sym r.2));
  complete = λ v p. subst (λ xs. Contains xs v) (sym m) (subst (λ w. Contains (map text labels) w) (sym p.2) (Contains-map text labels p.0 (h.complete p.0 p.1)));
}

-- the list has exactly the values with the property
pub listed_by : (P : Value → Type 0) (values : List Value) → ((w : Value) → Contains values w ↔ P w) → Lists P values true
listed_by P values h = record { complete = λ w p. (h w).1 p; sound = λ yes w c. (h w).0 c }

pub equals_before : (version : ℕ) (v : Value) (values : List Value) → ((w : Value) → Contains values w ↔ IsEqual version v w) → Lists (λ u. IsEqual version u v) values true
equals_before version v values h = record { complete = λ w e. (h w).1 (equal_turned version w v e); sound = λ yes w c. equal_turned version v w ((h w).0 c) }

module _ (G : DataGraph) (version : ℕ) where
  -- the label of an edge from u, seen as a text, is listed
  label_listed : (u l v : Value) (steps : List Step) (labels : List Value) → ListsExactly step_cmp (IsStepFrom G u) steps → ListsExactly value_cmp (Contains (map (λ x. text x.label) steps)) labels → HasArc G u l v → Contains labels l
  label_listed u (Data (Text n)) v steps labels hs hl edge = hl.complete (text n) (Contains-map (λ x. text x.label) steps (record { label = n; end = v }) (hs.complete (record { label = n; end = v }) edge))
  label_listed u l v steps labels hs hl edge = absurd edge

  label_to_listed : (u l v : Value) (steps : List Step) (labels : List Value) → ListsExactly step_cmp (IsStepTo G v) steps → ListsExactly value_cmp (Contains (map (λ x. text x.label) steps)) labels → HasArc G u l v → Contains labels l
  label_to_listed u (Data (Text n)) v steps labels hs hl edge = hl.complete (text n) (Contains-map (λ x. text x.label) steps (record { label = n; end = u }) (hs.complete (record { label = n; end = u }) edge))
  label_to_listed u l v steps labels hs hl edge = absurd edge

  -- the start of an edge by the label is listed
  start_listed : (u v : Value) (name : List ℕ) (edges : List GraphEdge) (starts : List Value) → ListsExactly edge_cmp (IsLabelled G name) edges → ListsExactly value_cmp (Contains (map (λ e. node e.from) edges)) starts → HasEdge G u name v → Contains starts u
  start_listed (Data (Node n)) v name edges starts hs he edge = he.complete (node n) (Contains-map (λ e. node e.from) edges (record { from = n; label = name; to = v }) (hs.complete (record { from = n; label = name; to = v }) (edge, refl)))
  start_listed u v name edges starts hs he edge = absurd edge

  module _ (arcs : List Bool) (s : List (Option Value)) where
    pub offer_settled : (atom : Atom) (slot : ℕ) (all : List Value) (exact : Bool) (slot2 : ℕ) (values : List Value) (settled : Bool)
        → slice_get s slot ≡ Some None
        → IsSettled G arcs slot all exact slot2 values settled
        → ((t : List Value) (v : Value) → Agrees t s → AtomHolds G version atom t → slice_get t slot ≡ Some v → Contains all v)
        → (IsTrue exact → (t : List Value) (v : Value) → Contains all v → slice_get t slot ≡ Some v → Agrees t s → AtomHolds G version atom t)
        → IsOffer G version arcs atom s slot2 values settled
    offer_settled atom slot all exact slot2 values settled free h complete sound = record {
      free = subst (λ k. slice_get s k ≡ Some None) (sym h.same_slot) free;
      within = λ v c. subst (λ k. IsCandidate G (is_arc arcs k) v) (sym h.same_slot) (h.part.sound v c);
      complete = λ t v a d holds e.
          (let there = subst (λ k. slice_get t k ≡ Some v) h.same_slot e in
          h.part.complete v (complete t v a holds there) (d.each slot v there));
      exact = λ yes t v c e a. sound (let same = h.same_exact in cc) t v (h.part.of_all v c) (subst (λ k. slice_get t k ≡ Some v) h.same_slot e) a;
    }

    pub offer_after : (p : Slot) (relation : Relation) (q : Slot) (u : Value) (slot : ℕ) (all : List Value) (exact : Bool) (slot2 : ℕ) (values : List Value) (settled : Bool)
        → IsKnown p s u → q ≡ Variable slot → slice_get s slot ≡ Some None → Lists (Relates G version relation u) all exact → IsSettled G arcs slot all exact slot2 values settled
        → IsOffer G version arcs (Two p relation q) s slot2 values settled
    offer_after p relation q u slot all exact slot2 values settled hp hq free lists h =
        offer_settled (Two p relation q) slot all exact slot2 values settled free h
        (λ t v a holds e.
        let eu = same_standing p t holds.0 u holds.2 (known_stands p t s u a hp) in
        let at_slot : Stands (Variable slot) t holds.1 = subst (λ r. Stands r t holds.1) hq holds.3 in
        let ev = same_standing (Variable slot) t holds.1 v at_slot e in
        lists.complete v (subst (λ x. Relates G version relation x v) eu (subst (λ y. Relates G version relation holds.0 y) ev holds.4)))
        (λ yes t v c e a. (u, v, known_stands p t s u a hp, subst (λ r. Stands r t v) (sym hq) e, lists.sound yes v c))

    pub offer_before : (p : Slot) (relation : Relation) (q : Slot) (v : Value) (slot : ℕ) (all : List Value) (exact : Bool) (slot2 : ℕ) (values : List Value) (settled : Bool)
        → IsKnown q s v → p ≡ Variable slot → slice_get s slot ≡ Some None → Lists (λ u. Relates G version relation u v) all exact → IsSettled G arcs slot all exact slot2 values settled
        → IsOffer G version arcs (Two p relation q) s slot2 values settled
    offer_before p relation q v slot all exact slot2 values settled hq hp free lists h =
        offer_settled (Two p relation q) slot all exact slot2 values settled free h
        (λ t u a holds e.
        let ev = same_standing q t holds.1 v holds.3 (known_stands q t s v a hq) in
        let at_slot : Stands (Variable slot) t holds.0 = subst (λ r. Stands r t holds.0) hp holds.2 in
        let eu = same_standing (Variable slot) t holds.0 u at_slot e in
        lists.complete u (subst (λ x. Relates G version relation x v) eu (subst (λ y. Relates G version relation holds.0 y) ev holds.4)))
        (λ yes t u c e a. (u, v, subst (λ r. Stands r t u) (sym hp) e, known_stands q t s v a hq, lists.sound yes u c))

    pub offer_one : (p : Slot) (property : Property) (slot : ℕ) (all : List Value) (exact : Bool) (slot2 : ℕ) (values : List Value) (settled : Bool)
        → p ≡ Variable slot → slice_get s slot ≡ Some None → Lists (Has G version property) all exact → IsSettled G arcs slot all exact slot2 values settled
        → IsOffer G version arcs (One p property) s slot2 values settled
    offer_one p property slot all exact slot2 values settled hp free lists h =
        offer_settled (One p property) slot all exact slot2 values settled free h
        (λ t v a holds e.
        let at_slot : Stands (Variable slot) t holds.0 = subst (λ r. Stands r t holds.0) hp holds.1 in
        let ev = same_standing (Variable slot) t holds.0 v at_slot e in
        lists.complete v (subst (λ x. Has G version property x) ev holds.2))
        (λ yes t v c e a. (v, subst (λ r. Stands r t v) (sym hp) e, lists.sound yes v c))

    -- a label of an edge from u
    pub offer_label_from : (p : Slot) (k : ℕ) (q : Slot) (u : Value) (steps : List Step) (labels : List Value) (slot2 : ℕ) (values : List Value) (settled : Bool)
        → IsKnown p s u → slice_get s k ≡ Some None → ListsExactly step_cmp (IsStepFrom G u) steps → ListsExactly value_cmp (Contains (map (λ x. text x.label) steps)) labels
        → IsSettled G arcs k labels false slot2 values settled → IsOffer G version arcs (Arc p k q) s slot2 values settled
    offer_label_from p k q u steps labels slot2 values settled hp free hs hl h =
        offer_settled (Arc p k q) k labels false slot2 values settled free h
        (λ t l a holds e.
        let eu = same_standing p t holds.0 u holds.3 (known_stands p t s u a hp) in
        let el = same_standing (Variable k) t holds.1 l holds.4 e in
        label_listed u l holds.2 steps labels hs hl (subst (λ x. HasArc G x l holds.2) eu (subst (λ y. HasArc G holds.0 y holds.2) el holds.6)))
        (λ yes. cc)

    pub offer_label_to : (p : Slot) (k : ℕ) (q : Slot) (v : Value) (steps : List Step) (labels : List Value) (slot2 : ℕ) (values : List Value) (settled : Bool)
        → IsKnown q s v → slice_get s k ≡ Some None → ListsExactly step_cmp (IsStepTo G v) steps → ListsExactly value_cmp (Contains (map (λ x. text x.label) steps)) labels
        → IsSettled G arcs k labels false slot2 values settled → IsOffer G version arcs (Arc p k q) s slot2 values settled
    offer_label_to p k q v steps labels slot2 values settled hq free hs hl h =
        offer_settled (Arc p k q) k labels false slot2 values settled free h
        (λ t l a holds e.
        let ev = same_standing q t holds.2 v holds.5 (known_stands q t s v a hq) in
        let el = same_standing (Variable k) t holds.1 l holds.4 e in
        label_to_listed holds.0 l v steps labels hs hl (subst (λ z. HasArc G holds.0 l z) ev (subst (λ y. HasArc G holds.0 y holds.2) el holds.6)))
        (λ yes. cc)

    pub offer_end : (p : Slot) (k : ℕ) (q : Slot) (u l : Value) (slot : ℕ) (all : List Value) (exact : Bool) (slot2 : ℕ) (values : List Value) (settled : Bool)
        → IsKnown p s u → slice_get s k ≡ Some (Some l) → q ≡ Variable slot → slice_get s slot ≡ Some None → Lists (HasArc G u l) all exact
        → IsSettled G arcs slot all exact slot2 values settled → IsOffer G version arcs (Arc p k q) s slot2 values settled
    offer_end p k q u l slot all exact slot2 values settled hp hk hq free lists h =
        offer_settled (Arc p k q) slot all exact slot2 values settled free h
        (λ t v a holds e.
        let eu = same_standing p t holds.0 u holds.3 (known_stands p t s u a hp) in
        let el = same_standing (Variable k) t holds.1 l holds.4 (a.same k l hk) in
        let at_slot : Stands (Variable slot) t holds.2 = subst (λ r. Stands r t holds.2) hq holds.5 in
        let ev = same_standing (Variable slot) t holds.2 v at_slot e in
        lists.complete v (subst (λ x. HasArc G x l v) eu (subst (λ y. HasArc G holds.0 y v) el (subst (λ z. HasArc G holds.0 holds.1 z) ev holds.6))))
        (λ yes t v c e a. (u, l, v, known_stands p t s u a hp, a.same k l hk, subst (λ r. Stands r t v) (sym hq) e, lists.sound yes v c))

    pub offer_start : (p : Slot) (k : ℕ) (q : Slot) (l v : Value) (slot : ℕ) (all : List Value) (exact : Bool) (slot2 : ℕ) (values : List Value) (settled : Bool)
        → IsKnown q s v → slice_get s k ≡ Some (Some l) → p ≡ Variable slot → slice_get s slot ≡ Some None → Lists (λ u. HasArc G u l v) all exact
        → IsSettled G arcs slot all exact slot2 values settled → IsOffer G version arcs (Arc p k q) s slot2 values settled
    offer_start p k q l v slot all exact slot2 values settled hq hk hp free lists h =
        offer_settled (Arc p k q) slot all exact slot2 values settled free h
        (λ t u a holds e.
        let ev = same_standing q t holds.2 v holds.5 (known_stands q t s v a hq) in
        let el = same_standing (Variable k) t holds.1 l holds.4 (a.same k l hk) in
        let at_slot : Stands (Variable slot) t holds.0 = subst (λ r. Stands r t holds.0) hp holds.3 in
        let eu = same_standing (Variable slot) t holds.0 u at_slot e in
        lists.complete u (subst (λ x. HasArc G x l v) eu (subst (λ y. HasArc G holds.0 y v) el (subst (λ z. HasArc G holds.0 holds.1 z) ev holds.6))))
        (λ yes t u c e a. (u, l, v, subst (λ r. Stands r t u) (sym hp) e, a.same k l hk, known_stands q t s v a hq, lists.sound yes u c))

    pub offer_starts : (p : Slot) (name : List ℕ) (q : Slot) (slot : ℕ) (edges : List GraphEdge) (starts : List Value) (slot2 : ℕ) (values : List Value) (settled : Bool)
        → p ≡ Variable slot → slice_get s slot ≡ Some None → ListsExactly edge_cmp (IsLabelled G name) edges → ListsExactly value_cmp (Contains (map (λ e. node e.from) edges)) starts
        → IsSettled G arcs slot starts false slot2 values settled → IsOffer G version arcs (Two p (Edge name) q) s slot2 values settled
    offer_starts p name q slot edges starts slot2 values settled hp free hs he h =
        offer_settled (Two p (Edge name) q) slot starts false slot2 values settled free h
        (λ t u a holds e.
        let at_slot : Stands (Variable slot) t holds.0 = subst (λ r. Stands r t holds.0) hp holds.2 in
        let eu = same_standing (Variable slot) t holds.0 u at_slot e in
        start_listed u holds.1 name edges starts hs he (subst (λ x. HasEdge G x name holds.1) eu holds.4))
        (λ yes. cc)
