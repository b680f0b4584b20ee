-- `object a { e &b }` and `not(p -> l -> q)`: each variable has its whole domain, and exactly the edge is left out.
use Rattle.std.specs.Prelude.{◌≡◌, ◌⊎◌, List, [], ◌∷◌, Contains}
use Rattle.std.specs.List.Sorted.{IsStrictlySortedBy}
use Rattle.std.proofs.Common.{refl, sym, ap, subst, inl, inr, lit<}
use Rattle.sd_value.specs.declared.Datum.TheVariants.{Node}
use Rattle.sd_value.specs.declared.Value.{Value}
use Rattle.sd_value.specs.declared.Value.TheVariants.{Data, Page}
use Rattle.sd_value.specs.Order.{value_cmp, datum_cmp}
use Rattle.sd_value.specs.Members.{IsOneOf, IsOneOf-from_Contains}
use Rattle.sd_value.specs.Ascending.{ListsExactly}
use Rattle.graph_spec.specs.declared.Edge.{Edge}
use Rattle.graph_spec.specs.DataGraph.{Name, node, text, IsValueOf, IsLabelValueOf}
use Rattle.query_spec.specs.Query.{variable, arc_variable, path}
use Rattle.query_spec.specs.Holds.{Holds}
use Rattle.query_spec.specs.Rows.{IsRow, row_cmp, value_in}
use Rattle.definition_examples.specs.Tools.{edge}
use Rattle.definition_examples.proofs.Tools.{listed, all, each, names_differ, HasEdge-at}
use Rattle.definition_examples.specs.NegationRows.{a, b, e, p, q, l, graph, chain, row, rows}

only_values : (v : Value) → IsValueOf graph v → (v ≡ node a) ⊎ (v ≡ node b)
only_values (Data (Node n)) m =
    elim (IsOneOf-from_Contains graph.nodes n m) [ inl h ↦ inl (ap node (sym h)) | inr (inl h) ↦ inr (ap node (sym h)) | inr (inr h) ↦ absurd h ]
only_values (Data d) m =
    elim (IsOneOf-from_Contains graph.edges m.0 m.1) [ inl h ↦ let ends = ap (λ (k : Edge). k.to) h in cc | inr h ↦ absurd h ]
only_values (Page t) m = absurd m

only_label : (v : Value) → IsLabelValueOf graph v → v ≡ text e
only_label v m =
    elim (IsOneOf-from_Contains graph.edges m.1.0 m.1.1) [ inl h ↦ let labels = ap (λ (k : Edge). k.label) h in let same = m.1.2 in let is = m.2 in cc | inr h ↦ absurd h ]

no_edge : (from to : Name) → ((from ≡ a) × (to ≡ b) → ⊥) → Holds graph 1 (path (variable p) (arc_variable l) (variable q)) (value_in chain.variables (row from to)) → ⊥
no_edge from to other (u, v, start, end, label, arc, is) =
    let at : Contains graph.edges (edge from e (node to)) = HasEdge-at graph (let h : u ≡ node from = cc in h) (let h : label ≡ e = cc in h) (let h : v ≡ node to = cc in h) is in
    elim (IsOneOf-from_Contains graph.edges _ at) [
      | inl h ↦ let starts = ap (λ (k : Edge). k.from) h in let ends = ap (λ (k : Edge). k.to) h in other (cc, cc)
      | inr h ↦ h
    ]

has_row : (from to : Name) → IsValueOf graph (node from) → IsValueOf graph (node to) → ((from ≡ a) × (to ≡ b) → ⊥) → IsRow graph chain (row from to)
has_row from to f t other = record {
  in_domain = (f, ((e, (edge a e (node b), (0, lit< tt, refl), refl), refl), (t, tt)));
  conditions_hold = all (λ k. Holds graph 1 k (value_in chain.variables (row from to))) chain.conditions (no_edge from to other, tt);
}

not_a_row : IsRow graph chain (row a b) → ⊥
not_a_row r =
    (each (λ k. Holds graph 1 k (value_in chain.variables (row a b))) chain.conditions r.conditions_hold).0
    (node a, node b, refl, refl, e, refl, (0, lit< tt, refl))

only_rows : (r : List Value) → IsRow graph chain r → IsOneOf rows r
only_rows [] r = absurd r.in_domain
only_rows (u ∷ []) r = absurd r.in_domain.1
only_rows (u ∷ v ∷ []) r = absurd r.in_domain.1.1
only_rows (u ∷ v ∷ w ∷ []) r = by (only_values u r.in_domain.0) (only_label v r.in_domain.1.0) (only_values w r.in_domain.1.1.0)
  where
    by : (u ≡ node a) ⊎ (u ≡ node b) → v ≡ text e → (w ≡ node a) ⊎ (w ≡ node b) → IsOneOf rows (u ∷ v ∷ w ∷ [])
    by (inl f) is (inl t) = inl cc
    by (inl f) is (inr t) = let same : u ∷ v ∷ w ∷ [] ≡ row a b = cc in absurd (not_a_row (subst (λ s. IsRow graph chain s) same r))
    by (inr f) is (inl t) = inr (inl cc)
    by (inr f) is (inr t) = inr (inr (inl cc))
only_rows (u ∷ v ∷ w ∷ z ∷ rest) r = absurd r.in_domain.1.1.1

pub exactly_three_rows : ListsExactly row_cmp (IsRow graph chain) rows
unfolding IsStrictlySortedBy value_cmp datum_cmp
exactly_three_rows =
    listed row_cmp (IsRow graph chain) rows
    ((refl, (refl, tt)), ((refl, tt), (tt, tt)))
    (has_row a a (0, lit< tt, refl) (0, lit< tt, refl) (λ h. names_differ a b refl h.1), (has_row b a (1, lit< tt, refl) (0, lit< tt, refl) (λ h. names_differ b a refl h.0), (has_row b b (1, lit< tt, refl) (1, lit< tt, refl) (λ h. names_differ b a refl h.0), tt)))
    only_rows
