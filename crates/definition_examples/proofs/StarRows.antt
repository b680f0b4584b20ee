-- `object p { a &q } object q { b &r } object r { b &q }` and `x -> "a"."b"* -> y`: exactly (p, q) and (p, r).
use Rattle.std.specs.Prelude.{◌≡◌, ◌⊎◌, List, [], ◌∷◌, ◌++◌, ◌≢◌}
use Rattle.std.specs.List.Sorted.{IsStrictlySortedBy}
use Rattle.std.proofs.Common.{refl, ◌∙◌, ap, subst, inl, inr, lit<}
use Rattle.std.proofs.lemmas.List.Elements.{All-nil}
use Rattle.sd_value.specs.declared.Datum.TheVariants.{Node}
use Rattle.sd_value.specs.declared.Value.{Value}
use Rattle.sd_value.specs.declared.Value.TheVariants.{Data, Page}
use Rattle.sd_value.specs.Order.{value_cmp, datum_cmp}
use Rattle.sd_value.specs.Members.{IsOneOf, IsOneOf-from_Contains}
use Rattle.sd_value.specs.Ascending.{ListsExactly}
use Rattle.rpe.specs.Regex.{Word, label, seq, star}
use Rattle.rpe.specs.Language.{concat, InLanguage}
use Rattle.graph_spec.specs.declared.Edge.{Edge}
use Rattle.graph_spec.specs.DataGraph.{Name, node, HasEdge}
use Rattle.graph_spec.specs.Walk.{Walk}
use Rattle.query_spec.specs.Query.{variable, expression, path}
use Rattle.query_spec.specs.Holds.{Holds}
use Rattle.query_spec.specs.Rows.{IsRow, row_cmp, value_in}
use Rattle.definition_examples.specs.Tools.{edge}
use Rattle.definition_examples.proofs.Tools.{listed, all, each, Each, names_differ, Walk-at}
use Rattle.definition_examples.specs.StarRows.{a, b, p, q, r, x, y, graph, chain, row, rows}

-- the edges, as they start, go by a label, and end
edges_are : (u : Value) (l : Name) (v : Value) → HasEdge graph u l v
    → ((u ≡ node p) × (l ≡ a) × (v ≡ node q)) ⊎ (((u ≡ node q) × (l ≡ b) × (v ≡ node r)) ⊎ ((u ≡ node r) × (l ≡ b) × (v ≡ node q)))
edges_are (Data (Node n)) l v h =
    elim (IsOneOf-from_Contains graph.edges (edge n l v) h) [
      | inl k ↦ let f = ap (λ (k : Edge). k.from) k in let m = ap (λ (k : Edge). k.label) k in let t = ap (λ (k : Edge). k.to) k in inl (cc, cc, cc)
      | inr (inl k) ↦ let f = ap (λ (k : Edge). k.from) k in let m = ap (λ (k : Edge). k.label) k in let t = ap (λ (k : Edge). k.to) k in inr (inl (cc, cc, cc))
      | inr (inr (inl k)) ↦ let f = ap (λ (k : Edge). k.from) k in let m = ap (λ (k : Edge). k.label) k in let t = ap (λ (k : Edge). k.to) k in inr (inr (cc, cc, cc))
      | inr (inr (inr k)) ↦ absurd k
    ]
edges_are (Data d) l v h = absurd h
edges_are (Page t) l v h = absurd h

-- from q and r a step by b leads to q or r
b_step : (u v : Value) → (u ≡ node q) ⊎ (u ≡ node r) → HasEdge graph u b v → (v ≡ node q) ⊎ (v ≡ node r)
b_step u v at h =
    elim (edges_are u b v h) [
      | inl k ↦ absurd (names_differ b a refl k.1)
      | inr (inl k) ↦ inr k.2
      | inr (inr k) ↦ inl k.2
    ]

b_walk : (parts : List Word) → Each (InLanguage (label b)) parts → (u v : Value) → (u ≡ node q) ⊎ (u ≡ node r)
    → Walk graph u (concat parts) v → (v ≡ node q) ⊎ (v ≡ node r)
b_walk [] h u v at walk = rw walk at at
b_walk (w ∷ ws) h u v at walk =
    let step : Walk graph u (b ∷ concat ws) v = subst (λ z. Walk graph u (z ++ concat ws) v) h.0 walk in
    b_walk ws h.1 step.0 v (b_step u step.0 at step.1) step.2

ends : (u v : Value) (word : Word) → InLanguage (seq (label a) (star (label b))) word → Walk graph u word v → (u ≡ node p) × ((v ≡ node q) ⊎ (v ≡ node r))
ends u v word (front, back, is_a, (parts, full, bs, is_bs), joined) walk =
    let spelt : word ≡ a ∷ concat parts = joined ∙ (λ i. is_a i ++ is_bs i) in
    let step : Walk graph u (a ∷ concat parts) v = Walk-at graph refl spelt refl walk in
    elim (edges_are u a step.0 step.1) [
      | inl k ↦ (k.0, b_walk parts (each (InLanguage (label b)) parts bs) step.0 v (inl k.2) step.2)
      | inr (inl k) ↦ absurd (names_differ a b refl k.1)
      | inr (inr k) ↦ absurd (names_differ a b refl k.1)
    ]

only_rows : (s : List Value) → IsRow graph chain s → IsOneOf rows s
only_rows [] s = absurd s.in_domain
only_rows (u ∷ []) s = absurd s.in_domain.1
only_rows (u ∷ v ∷ []) s =
    by ((each (λ k. Holds graph 1 k (value_in chain.variables (u ∷ v ∷ []))) chain.conditions s.conditions_hold).0)
  where
    found : (u ≡ node p) × ((v ≡ node q) ⊎ (v ≡ node r)) → IsOneOf rows (u ∷ v ∷ [])
    found (f, inl t) = inl cc
    found (f, inr t) = inr (inl cc)

    by : Holds graph 1 (path (variable x) (expression (seq (label a) (star (label b)))) (variable y)) (value_in chain.variables (u ∷ v ∷ [])) → IsOneOf rows (u ∷ v ∷ [])
    by (m, n, start, end, word, spells, walk) =
        found (ends u v word spells (Walk-at graph (let h : m ≡ u = cc in h) refl (let h : n ≡ v = cc in h) walk))
only_rows (u ∷ v ∷ w ∷ rest) s = absurd s.in_domain.1.1

has_q : IsRow graph chain (row p q)
has_q = record {
  in_domain = ((0, lit< tt, refl), ((1, lit< tt, refl), tt));
  conditions_hold = all (λ k. Holds graph 1 k (value_in chain.variables (row p q))) chain.conditions
      ((node p, node q, refl, refl, a ∷ [], (a ∷ [], [], refl, ([], All-nil _, All-nil _, refl), refl), (node q, (0, lit< tt, refl), refl)), tt);
}

has_r : IsRow graph chain (row p r)
has_r = record {
  in_domain = ((0, lit< tt, refl), ((2, lit< tt, refl), tt));
  conditions_hold = all (λ k. Holds graph 1 k (value_in chain.variables (row p r))) chain.conditions
      ((node p, node r, refl, refl, a ∷ b ∷ [], (a ∷ [], b ∷ [], refl, ((b ∷ []) ∷ [], all (λ part. part ≢ []) ((b ∷ []) ∷ []) ((λ h. cc), tt), all (InLanguage (label b)) ((b ∷ []) ∷ []) (refl, tt), refl), refl), (node q, (0, lit< tt, refl), (node r, (1, lit< tt, refl), refl))), tt);
}

pub exactly_two_rows : ListsExactly row_cmp (IsRow graph chain) rows
unfolding IsStrictlySortedBy value_cmp datum_cmp
exactly_two_rows = listed row_cmp (IsRow graph chain) rows ((refl, tt), (tt, tt)) (has_q, (has_r, tt)) only_rows
