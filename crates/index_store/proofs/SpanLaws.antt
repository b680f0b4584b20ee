-- Spans of what lies in the place of a query, and what lies in two places at once.
use Rattle.std.specs.Prelude.{◌≡◌, ◌<◌, ℕ, ◌+◌, ◌-◌, true, false, cond, List, [], ◌∷◌, ◌++◌, take, drop, length, slice_index_or, All}
use Rattle.std.specs.declared.cmp.Ordering.{Ordering}
use Rattle.std.specs.declared.cmp.Ordering.TheVariants.{Less, Equal, Greater}
use Rattle.std.specs.Ordering.{is_eq, ordering_then}
use Rattle.std.specs.List.Sorted.{IsStrictlySortedBy}
use Rattle.std.proofs.Common.{arith, refl, sym, ap, ◌∙◌, subst, inl, inr}
use Rattle.std.proofs.lemmas.Bool.{cases_lt}
use Rattle.std.proofs.lemmas.List.{length-map, take-map, drop-map, map-id, get_or_append_left, get_or_push}
use Rattle.std.proofs.lemmas.List.Elements.{All-drop, All-take}
use Rattle.std.proofs.lemmas.List.Kept.{IsStrictlySortedBy-filter}
use Rattle.sd_value.specs.declared.Value.{Value}
use Rattle.sd_value.specs.Order.{bytes_cmp, value_cmp}
use Rattle.sd_value.specs.OrderLaws.{value_cmp-exact, both_tie}
use Rattle.graph_spec.specs.DataGraph.{Name, node}
use Rattle.graph_spec.specs.Orders.{edge_cmp}
use Rattle.graph_spec.specs.declared.Edge.{Edge}
use Rattle.list_lookup.specs.Picked.{in_place, passes, EndsAt, IsPlaced, HasOne}
use Rattle.list_lookup.proofs.Placed.{after_tie, names_tied, values_tied}
use Rattle.list_lookup.specs.PickedLaws.{part-is, picked-ascends, filter-sound, filter-complete}
use Rattle.edge_queries.specs.Ordered.{by_end_cmp, by_label_cmp}
use Rattle.edge_queries.specs.Places.{at_start, at_end, at_label, at_edge, at_end_label}
use Rattle.edge_queries.specs.Listed.{placed-label, placed-edge}
use Rattle.index_store.specs.declared.spans.Span.{Span}
use Rattle.index_store.specs.Indexed.{edge_at, edges_at, place_at, IsOrder, IsSpanOf, ArePicked}
use Rattle.index_store.proofs.PositionLaws.{placed_at, in_place_at, All-filter}

-- from the one end to the other
pub span_is : {X : Type 0} (place : X → Ordering) (xs : List X) (lo hi : ℕ) → EndsAt (λ x. passes false (place x)) xs lo → EndsAt (λ x. passes true (place x)) xs hi
    → IsSpanOf place xs (record { start = lo; end = hi })
span_is place xs lo hi start end = let (up, is) = part-is place xs lo hi start end in record { up = up; fits = end.fits; exact = is }

-- one span more
pub spans_more : (P : ℕ → Span → Type 0) (spans : List Span) (span : Span) (n : ℕ) → length spans ≡ n → ((k : ℕ) (s : Span) → k < n → P k (slice_index_or spans k s)) → P n span
    → (k : ℕ) (s : Span) → k < n + 1 → P k (slice_index_or (spans ++ span ∷ []) k s)
spans_more P spans span n long old new k s l = elim (cases_lt k n) [
  | inl before ↦ subst (P k) (sym (get_or_append_left spans (span ∷ []) s k (omega (arith, before, long)))) (old k s before)
  | inr past ↦
      let e : n ≡ k = omega arith in
      subst (λ j. P j (slice_index_or (spans ++ span ∷ []) j s)) e (subst (P n) (sym (ap (λ j. slice_index_or (spans ++ span ∷ []) j s) (sym long) ∙ get_or_push spans span s (length spans) refl)) new)
]

-- the same span, of the edges at positions
pub span_at : (place : Edge → Ordering) (es : List Edge) (ps : List ℕ) (span : Span) → All (λ i. i < length es) ps → IsSpanOf (place_at place es) ps span → IsSpanOf place (edges_at es ps) span
span_at place es ps span fits is = record {
  up = is.up;
  fits = omega (arith, is.fits, length-map ps (edge_at es));
  exact = ap (take (span.end - span.start)) (drop-map (edge_at es) span.start ps) ∙ take-map (edge_at es) (span.end - span.start) (drop span.start ps) ∙ ap (edges_at es) is.exact ∙ in_place_at place es ps fits;
}

-- what lies in one place, of what lies in another
pub then_in_place : {X : Type 0} (p q : X → Ordering) (xs : List X) → in_place q (in_place p xs) ≡ in_place (λ x. ordering_then (p x) (q x)) xs
then_in_place p q [] = refl
then_in_place {X} p q (x ∷ xs) = by (then_in_place p q xs) (p x)
  where
    by : in_place q (in_place p xs) ≡ in_place (λ x. ordering_then (p x) (q x)) xs → (o : Ordering)
        → in_place q (cond (is_eq o) (x ∷ in_place p xs) (in_place p xs)) ≡ cond (is_eq (ordering_then o (q x))) (x ∷ in_place (λ x. ordering_then (p x) (q x)) xs) (in_place (λ x. ordering_then (p x) (q x)) xs)
    by rest Less = rest
    by rest Equal = ap (λ zs. cond (is_eq (q x)) (x ∷ zs) zs) rest
    by rest Greater = rest

node_name : (m n : Name) → node m ≡ node n → m ≡ n
node_name m n e = cc

then_more : (p q r : Ordering) → ordering_then p q ≡ Less → ordering_then p (ordering_then q r) ≡ Less
then_more Less q r h = refl
then_more Equal q r h = ap (λ o. ordering_then o r) h
then_more Greater q r h = cc

tied_starts : (u : Value) (x y : Edge) → at_start u x ≡ Equal → at_start u y ≡ Equal → bytes_cmp x.from y.from ≡ Equal
tied_starts u x y h k = names_tied x.from y.from (node_name x.from y.from (value_cmp-exact (node x.from) u h ∙ sym (value_cmp-exact (node y.from) u k)))

tied_ends : (v : Value) (x y : Edge) → at_end v x ≡ Equal → at_end v y ≡ Equal → value_cmp x.to y.to ≡ Equal
tied_ends v x y h k = values_tied x.to y.to (value_cmp-exact x.to v h ∙ sym (value_cmp-exact y.to v k))

-- the edges from a value are in the order of their labels
pub placed_out : (u : Value) (label : Name) (es : List Edge) → IsStrictlySortedBy edge_cmp es → IsPlaced (at_label label) (in_place (at_start u) es)
placed_out u label es up =
    placed-label label (in_place (at_start u) es) (subst (IsStrictlySortedBy by_label_cmp) (map-id (in_place (at_start u) es))
    (picked-ascends edge_cmp by_label_cmp (at_start u) (λ e. e)
    (record {
      at = λ x y h k less.
          let tied = tied_starts u x y h k in
          ap (ordering_then (bytes_cmp x.label y.label)) (after_tie (bytes_cmp x.from y.from) (value_cmp x.to y.to) tied)
          ∙ sym (after_tie (bytes_cmp x.from y.from) (ordering_then (bytes_cmp x.label y.label) (value_cmp x.to y.to)) tied) ∙ less;
    })
    es up))

-- and the edges to a value, in the order by end
pub placed_in : (v : Value) (label : Name) (bs : List Edge) → IsStrictlySortedBy by_end_cmp bs → IsPlaced (at_label label) (in_place (at_end v) bs)
placed_in v label bs up =
    placed-label label (in_place (at_end v) bs) (subst (IsStrictlySortedBy by_label_cmp) (map-id (in_place (at_end v) bs))
    (picked-ascends by_end_cmp by_label_cmp (at_end v) (λ e. e)
    (record {
      at = λ x y h k less.
          then_more (bytes_cmp x.label y.label) (bytes_cmp x.from y.from) (value_cmp x.to y.to)
          (sym (after_tie (value_cmp x.to y.to) (ordering_then (bytes_cmp x.label y.label) (bytes_cmp x.from y.from)) (tied_ends v x y h k)) ∙ less);
    })
    bs up))

-- one edge, among those from its start
pub placed_edge_out : (u : Value) (label : Name) (v : Value) (es : List Edge) → IsStrictlySortedBy edge_cmp es → IsPlaced (at_edge u label v) (in_place (at_start u) es)
placed_edge_out u label v es up = placed-edge u label v _ (IsStrictlySortedBy-filter edge_cmp (λ e. is_eq (at_start u e)) es up)

pub edge_among : (u : Value) (label : Name) (v : Value) (es : List Edge)
    → (HasOne (at_edge u label v) (in_place (at_start u) es) → HasOne (at_edge u label v) es) × (HasOne (at_edge u label v) es → HasOne (at_edge u label v) (in_place (at_start u) es))
edge_among u label v es = (
  λ (e, at, is). (e, (filter-sound (λ x. is_eq (at_start u x)) es e at).0, is),
  λ (e, at, is). (e, filter-complete (λ x. is_eq (at_start u x)) es e at (ap is_eq (both_tie (at_start u e) _ is).0), is),
)

-- the positions of a span, and those found by halves
pub picked_in_span : (R : Edge → Edge → Ordering) (place : Edge → Ordering) (es : List Edge) (all : List ℕ) (span : Span) → IsOrder R es all → IsSpanOf place (edges_at es all) span
    → ArePicked R es place (take (span.end - span.start) (drop span.start all))
picked_in_span R place es all span order is = record {
  all = all;
  order = order;
  fits = All-take (λ i. i < length es) (span.end - span.start) (drop span.start all) (All-drop (λ i. i < length es) span.start all order.fits);
  exact = sym (take-map (edge_at es) (span.end - span.start) (drop span.start all)) ∙ ap (take (span.end - span.start)) (sym (drop-map (edge_at es) span.start all)) ∙ is.exact;
}

pub picked_in_place : (R : Edge → Edge → Ordering) (place : Edge → Ordering) (es : List Edge) (all : List ℕ) → IsOrder R es all → ArePicked R es place (in_place (place_at place es) all)
picked_in_place R place es all order = record {
  all = all;
  order = order;
  fits = All-filter (λ i. i < length es) (λ i. is_eq (place_at place es i)) all order.fits;
  exact = in_place_at place es all order.fits;
}

-- those of the edges to a value that have a label
pub placed_at_label : (v : Value) (label : Name) (es : List Edge) (ps : List ℕ) → ArePicked by_end_cmp es (at_end v) ps → IsPlaced (place_at (at_label label) es) ps
placed_at_label v label es ps are =
    placed_at (at_label label) es ps are.fits (subst (IsPlaced (at_label label)) (sym are.exact) (placed_in v label (edges_at es are.all) are.order.lists.ascending))

pub picked_by_label : (v : Value) (label : Name) (es : List Edge) (ps : List ℕ) → ArePicked by_end_cmp es (at_end v) ps → ArePicked by_end_cmp es (at_end_label v label) (in_place (place_at (at_label label) es) ps)
picked_by_label v label es ps are = record {
  all = are.all;
  order = are.order;
  fits = All-filter (λ i. i < length es) (λ i. is_eq (place_at (at_label label) es i)) ps are.fits;
  exact = in_place_at (at_label label) es ps are.fits ∙ ap (in_place (at_label label)) are.exact ∙ then_in_place (at_end v) (at_label label) (edges_at es are.all);
}
