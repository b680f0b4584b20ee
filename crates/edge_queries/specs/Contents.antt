-- The values and the labels of a graph, as its nodes and edges give them.
use Rattle.std.specs.Prelude.{◌≡◌, List, ◌++◌, map, Contains}
use Rattle.std.proofs.Common.{refl, subst, inl, inr}
use Rattle.std.proofs.lemmas.List.Elements.{Contains-append_cases, Contains-append_left, Contains-append_right}
use Rattle.sd_value.specs.declared.Datum.TheVariants.{Node}
use Rattle.sd_value.specs.declared.Value.{Value}
use Rattle.sd_value.specs.declared.Value.TheVariants.{Data, Page}
use Rattle.sd_value.specs.Order.{bytes_cmp, value_cmp}
use Rattle.sd_value.specs.Ascending.{ListsExactly}
use Rattle.sd_value.specs.Members.{Contains-map, Contains-mapped}
use Rattle.graph_spec.specs.DataGraph.{DataGraph, Name, node, IsValueOf, IsLabelOf, IsEnd, IsWellFormed}
use Rattle.graph_spec.specs.declared.Edge.{Edge}

-- all that a store keeps beside a graph
pub record IsStored (G : DataGraph) (vs : List Value) (ns : List Name) : Type 0 where
  pub well_formed : IsWellFormed G
  pub values : ListsExactly value_cmp (IsValueOf G) vs
  pub labels : ListsExactly bytes_cmp (IsLabelOf G) ns

end_is_value : (G : DataGraph) → IsWellFormed G → (e : Edge) → Contains G.edges e → IsValueOf G e.to
end_is_value G well e at = by e.to refl
  where
    by : (v : Value) → e.to ≡ v → IsValueOf G v
    by (Data (Node n)) is = let h : IsEnd G (Data (Node n)) = subst (IsEnd G) is
        (well.ends_are_data e at) in h
    by (Data d) is = (e, at, is)
    by (Page p) is = let h : IsEnd G (Page p) = subst (IsEnd G) is (well.ends_are_data e at) in h

-- each of a graph's nodes and edges' ends is one of its values
pub values-sound : (G : DataGraph) → IsWellFormed G → (v : Value)
    → Contains (map node G.nodes ++ map (λ (e : Edge). e.to) G.edges) v → IsValueOf G v
values-sound G well v h =
    elim (Contains-append_cases (map node G.nodes) (map (λ (e : Edge). e.to) G.edges) v h) [
      | inl m ↦ let (n, is, at) = Contains-map node G.nodes v m in subst (IsValueOf G) is at
      | inr m ↦ let (e, is, at) = Contains-map (λ (e : Edge). e.to) G.edges v m in subst
          (IsValueOf G) is (end_is_value G well e at)
    ]

-- and each of its values is one of these
pub values-complete : (G : DataGraph) (v : Value) → IsValueOf G v
    → Contains (map node G.nodes ++ map (λ (e : Edge). e.to) G.edges) v
values-complete G (Data (Node n)) h =
    Contains-append_left (map node G.nodes) _ _ (Contains-mapped node G.nodes n h)
values-complete G (Data d) (e, at, is) =
    Contains-append_right (map node G.nodes) _ _
    (subst (Contains (map (λ (e : Edge). e.to) G.edges)) is
    (Contains-mapped (λ (e : Edge). e.to) G.edges e at))
values-complete G (Page p) h = absurd h

-- each of its edges' labels is one of its labels
pub labels-sound : (G : DataGraph) (label : Name)
    → Contains (map (λ (e : Edge). e.label) G.edges) label → IsLabelOf G label
labels-sound G label h =
    let (e, is, at) = Contains-map (λ (e : Edge). e.label) G.edges label h in (e, at, is)

-- and each of its labels is one of these
pub labels-complete : (G : DataGraph) (label : Name) → IsLabelOf G label
    → Contains (map (λ (e : Edge). e.label) G.edges) label
labels-complete G label (e, at, is) =
    subst (Contains (map (λ (e : Edge). e.label) G.edges)) is
    (Contains-mapped (λ (e : Edge). e.label) G.edges e at)
