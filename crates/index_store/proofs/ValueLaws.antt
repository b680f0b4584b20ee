-- The values of a graph are its nodes and its edges' ends.
use Rattle.std.specs.Prelude.{◌≡◌, ◌<◌, ◌≤◌, ◌+◌, ◌-◌, ℕ, true, List, [], ◌∷◌, map, length, slice_index_or, Contains}
use Rattle.std.specs.Ordering.{eq_by_cmp}
use Rattle.std.specs.Cmp.{Equal-is}
use Rattle.std.proofs.lemmas.List.{length-map, get_or-map, get_or_append_left, get_or-append-add}
use Rattle.sd_value.specs.Order.{value_cmp}
use Rattle.sd_value.specs.OrderLaws.{value_cmp-exact}
use Rattle.std.proofs.Common.{arith, sym, ap, ◌∙◌, subst, inl, inr}
use Rattle.std.proofs.lemmas.List.Elements.{Contains-append_cases, Contains-append_right}
use Rattle.sd_value.specs.declared.Datum.TheVariants.{Node}
use Rattle.sd_value.specs.declared.Value.{Value}
use Rattle.sd_value.specs.declared.Value.TheVariants.{Data, Page}
use Rattle.sd_value.specs.Members.{Contains-here, Contains-map, Contains-mapped}
use Rattle.graph_spec.specs.DataGraph.{DataGraph, Name, node, IsValueOf, HasEdge, IsWellFormed}
use Rattle.graph_spec.specs.Orders.{step_cmp}
use Rattle.graph_spec.specs.Steps.{IsStepTo, IsCountOf}
use Rattle.graph_spec.specs.declared.Edge.{Edge}
use Rattle.graph_spec.specs.declared.Step.{Step}
use Rattle.edge_queries.specs.Contents.{values-sound, values-complete}
use Rattle.index_store.specs.Indexed.{IsNodeOf, value_at}

pub node_is_value : (G : DataGraph) (v : Value) → IsNodeOf G.nodes v → IsValueOf G v
node_is_value G (Data (Node n)) h = h
node_is_value G (Data d) h = absurd h
node_is_value G (Page p) h = absurd h

some_step : (ss : List Step) → 0 < length ss → (s : Step) × Contains ss s
some_step [] some = absurd (omega arith)
some_step (s ∷ ss) some = (s, Contains-here s ss)

-- a value that is no node is one exactly if an edge ends there
pub reached_values : (G : DataGraph) → IsWellFormed G → (v : Value) → (IsNodeOf G.nodes v → ⊥) → (n : ℕ) → IsCountOf step_cmp (IsStepTo G v) n
    → (0 < n → IsValueOf G v) × (IsValueOf G v → 0 < n)
reached_values G well v none n (ss, all, long) = (
  λ some. let (s, at) = some_step ss (omega (arith, some, long)) in by s.end s.label (all.sound s at),
  λ is. elim (Contains-append_cases (map node G.nodes) (map (λ (e : Edge). e.to) G.edges) v (values-complete G v is)) [
    | inl m ↦ let (name, same, at) = Contains-map node G.nodes v m in absurd (none (subst (IsNodeOf G.nodes) same at))
    | inr m ↦
        let (e, same, at) = Contains-map (λ (e : Edge). e.to) G.edges v m in
        let step : IsStepTo G v (record { label = e.label; end = node e.from }) = subst (λ (w : Value). Contains G.edges (record { from = e.from; label = e.label; to = w })) same at in
        let (i, l, here) = all.complete (record { label = e.label; end = node e.from }) step in
        omega (arith, l, long)
  ],
)
  where
    by : (u : Value) (label : Name) → HasEdge G u label v → IsValueOf G v
    by (Data (Node m)) label at = values-sound G well v (Contains-append_right (map node G.nodes) _ _ (Contains-mapped (λ (e : Edge). e.to) G.edges (record { from = m; label = label; to = v }) at))
    by (Data d) label at = absurd at
    by (Page p) label at = absurd at

-- the value at a place among the nodes, and behind them
pub node_value_at : (G : DataGraph) (i : ℕ) (n : Name) → i < length G.nodes → n ≡ slice_index_or G.nodes i n → value_at G i ≡ node n
node_value_at G i n l is =
    get_or_append_left (map node G.nodes) (map (λ (e : Edge). e.to) G.edges) (node []) i (omega (arith, l, length-map G.nodes node)) ∙ get_or-map node G.nodes i n (node []) l ∙ ap node (sym is)

pub end_value_at : (G : DataGraph) (i : ℕ) (e : Edge) → length G.nodes ≤ i → i < length G.nodes + length G.edges → e ≡ slice_index_or G.edges (i - length G.nodes) e → value_at G i ≡ e.to
end_value_at G i e past l is =
    let at : length (map node G.nodes) + (i - length G.nodes) ≡ i = omega (arith, past, length-map G.nodes node) in
    sym (ap (value_at G) at) ∙ get_or-append-add (map node G.nodes) (map (λ (e : Edge). e.to) G.edges) (i - length G.nodes) (node [])
    ∙ get_or-map (λ (d : Edge). d.to) G.edges (i - length G.nodes) e (node []) (omega (arith, past, l)) ∙ ap (λ (d : Edge). d.to) (sym is)

-- values that `==` says are equal
pub same_value : (u v : Value) → eq_by_cmp value_cmp u v ≡ true → u ≡ v
same_value u v h = value_cmp-exact u v ((Equal-is _).0 h)
