-- `object a { e &a }` and `x -> * -> y`: exactly the row (a, a).
use Rattle.std.specs.Prelude.{◌≡◌, List, [], ◌∷◌}
use Rattle.std.specs.List.Sorted.{IsStrictlySortedBy}
use Rattle.std.proofs.Common.{refl, sym, ap, inl, inr, lit<}
use Rattle.std.proofs.lemmas.List.Elements.{All-nil}
use Rattle.sd_value.specs.declared.Datum.TheVariants.{Node}
use Rattle.sd_value.specs.declared.Value.{Value}
use Rattle.sd_value.specs.declared.Value.TheVariants.{Data, Page}
use Rattle.sd_value.specs.Members.{IsOneOf, IsOneOf-from_Contains}
use Rattle.sd_value.specs.Ascending.{ListsExactly}
use Rattle.graph_spec.specs.DataGraph.{node, IsValueOf}
use Rattle.query_spec.specs.Rows.{IsRow, row_cmp, value_in}
use Rattle.definition_examples.proofs.Tools.{listed, all}
use Rattle.graph_spec.specs.declared.Edge.{Edge}
use Rattle.query_spec.specs.Holds.{Holds}
use Rattle.definition_examples.specs.LoopRow.{a, graph, chain, rows}

only_a : (v : Value) → IsValueOf graph v → v ≡ node a
only_a (Data (Node n)) m = elim (IsOneOf-from_Contains graph.nodes n m) [ inl h ↦ ap node (sym h) | inr h ↦ absurd h ]
only_a (Data d) m =
    elim (IsOneOf-from_Contains graph.edges m.0 m.1) [ inl h ↦ let ends = ap (λ (k : Edge). k.to) h in cc | inr h ↦ absurd h ]
only_a (Page p) m = absurd m

has_row : IsRow graph chain (node a ∷ node a ∷ [])
has_row = record {
  in_domain = ((0, lit< tt, refl), ((0, lit< tt, refl), tt));
  conditions_hold = all (λ k. Holds graph 1 k (value_in chain.variables (node a ∷ node a ∷ []))) chain.conditions ((node a, node a, refl, refl, [], ([], All-nil _, All-nil _, refl), refl), tt);
}

only_row : (row : List Value) → IsRow graph chain row → IsOneOf rows row
only_row [] r = absurd r.in_domain
only_row (u ∷ []) r = absurd r.in_domain.1
only_row (u ∷ v ∷ []) r = let p = only_a u r.in_domain.0 in let q = only_a v r.in_domain.1.0 in inl cc
only_row (u ∷ v ∷ w ∷ rest) r = absurd r.in_domain.1.1

pub exactly_one_row : ListsExactly row_cmp (IsRow graph chain) rows
unfolding IsStrictlySortedBy
exactly_one_row = listed row_cmp (IsRow graph chain) rows (tt, tt) (has_row, tt) only_row
