-- Two papers, as a data graph and as rows.
use Rattle.std.specs.Prelude.{◌≡◌, ℕ, List, [], ◌∷◌}
use Rattle.std.specs.List.Sorted.{IsStrictlySortedBy}
use Rattle.std.proofs.Common.{refl, sym, inl, lit<}
use Rattle.std.proofs.lemmas.List.Elements.{All-nil}
use Rattle.sd_value.specs.declared.Datum.TheVariants.{Node}
use Rattle.sd_value.specs.declared.Value.{Value}
use Rattle.sd_value.specs.declared.Value.TheVariants.{Data, Page}
use Rattle.sd_value.specs.Members.{IsOneOf, IsOneOf-from_Contains}
use Rattle.sd_value.specs.Ascending.{ListsExactly}
use Rattle.rpe.specs.Regex.{any, star}
use Rattle.graph_spec.specs.DataGraph.{DataGraph, IsValueOf}
use Rattle.graph_spec.specs.Walk.{Walk}
use Rattle.query_spec.specs.Query.{variable, constant, expression, path}
use Rattle.query_spec.specs.Holds.{Holds}
use Rattle.query_spec.specs.Rows.{IsRow, row_cmp, value_in}
use Rattle.definition_examples.specs.Tools.{edge}
use Rattle.definition_examples.proofs.Tools.{listed, all, each, Walk-at}
use Rattle.definition_examples.specs.Bibliography.{pub2, year, int, graph, y, from_1997, empty_graph}

no_way_out : (n : ℕ) (G : DataGraph) (word : List (List ℕ)) (v : Value) → Walk G (int n) word v → v ≡ int n
no_way_out n G [] v walk = sym walk
no_way_out n G (l ∷ rest) v walk = absurd walk.1

has_1997 : IsRow graph from_1997 (int 1997 ∷ [])
has_1997 = record {
  in_domain = ((edge pub2 year (int 1997), (6, lit< tt, refl), refl), tt);
  conditions_hold = all (λ k. Holds graph 1 k (value_in from_1997.variables (int 1997 ∷ []))) from_1997.conditions
      ((int 1997, int 1997, refl, refl, [], ([], All-nil _, All-nil _, refl), refl), tt);
}

only_1997 : (s : List Value) → IsRow graph from_1997 s → IsOneOf ((int 1997 ∷ []) ∷ []) s
only_1997 [] s = absurd s.in_domain
only_1997 (u ∷ []) s =
    by ((each (λ k. Holds graph 1 k (value_in from_1997.variables (u ∷ []))) from_1997.conditions s.conditions_hold).0)
  where
    by : Holds graph 1 (path (constant (int 1997)) (expression (star any)) (variable y)) (value_in from_1997.variables (u ∷ [])) → IsOneOf ((int 1997 ∷ []) ∷ []) (u ∷ [])
    by (m, n, start, end, word, spells, walk) =
        let ends : n ≡ int 1997 = no_way_out 1997 graph word n (Walk-at graph (let h : m ≡ int 1997 = cc in h) refl refl walk) in inl cc
only_1997 (u ∷ w ∷ rest) s = absurd s.in_domain.1

pub a_constant_reaches_itself : ListsExactly row_cmp (IsRow graph from_1997) ((int 1997 ∷ []) ∷ [])
unfolding IsStrictlySortedBy
a_constant_reaches_itself = listed row_cmp (IsRow graph from_1997) ((int 1997 ∷ []) ∷ []) (tt, tt) (has_1997, tt) only_1997

no_value : (v : Value) → IsValueOf empty_graph v → ⊥
no_value (Data (Node n)) m = IsOneOf-from_Contains [] n m
no_value (Data d) m = IsOneOf-from_Contains empty_graph.edges m.0 m.1
no_value (Page p) m = m

-- the variable has no value to take
pub no_row_over_the_empty_graph : (s : List Value) → IsRow empty_graph from_1997 s → ⊥
no_row_over_the_empty_graph [] s = s.in_domain
no_row_over_the_empty_graph (u ∷ rest) s = no_value u s.in_domain.0
