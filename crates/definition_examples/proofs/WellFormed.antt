-- The two papers are a well-formed graph, and the years' chain is well made.
use Rattle.std.specs.Prelude.{◌≡◌, ◌≢◌, ◌≤◌, List, [], ◌∷◌, Contains, AllPairs, IsTrue, map, true, false}
use Rattle.std.specs.List.{flat_map}
use Rattle.std.specs.List.Sorted.{IsStrictlySortedBy}
use Rattle.std.proofs.Common.{refl, inl, inr, lit<, lit≤, arith}
use Rattle.std.proofs.lemmas.List.Elements.{All-nil}
use Rattle.std.proofs.lemmas.List.Kept.{AllPairs-cons}
use Rattle.sd_value.specs.Order.{value_cmp, datum_cmp}
use Rattle.sd_value.specs.Members.{IsOneOf-from_Contains}
use Rattle.graph_spec.specs.declared.Edge.{Edge}
use Rattle.graph_spec.specs.declared.Member.{Member}
use Rattle.graph_spec.specs.DataGraph.{IsWellFormed, IsEnd, Name}
use Rattle.query_spec.specs.declared.Variable.{Variable}
use Rattle.query_spec.specs.Mentions.{IsWellMade, IsFlat, names, arc_names, node_names, condition_positions}
use Rattle.definition_examples.proofs.Tools.{Each, each-at, all, names_differ}
use Rattle.definition_examples.specs.Bibliography.{graph}
use Rattle.definition_examples.specs.BibliographySite.{chain, x, l, v}

-- what holds of each element of a list that is written out
of_each : {X : Type 0} (P : X → Type 0) (xs : List X) → Each P xs → (z : X) → Contains xs z → P z
of_each P xs h z m = each-at P xs h z (IsOneOf-from_Contains xs z m)

pub the_graph_is_well_formed : IsWellFormed graph
unfolding IsStrictlySortedBy value_cmp datum_cmp
the_graph_is_well_formed = record {
  nodes_ascend = ((refl, tt), (tt, tt));
  edges_ascend = (
    (refl, (refl, (refl, (refl, (refl, (refl, tt)))))),
    (
      (refl, (refl, (refl, (refl, (refl, tt))))),
      (
        (refl, (refl, (refl, (refl, tt)))),
        ((refl, (refl, (refl, tt))), ((refl, (refl, tt)), ((refl, tt), (tt, tt)))),
      ),
    ),
  );
  members_ascend = ((refl, tt), (tt, tt));
  starts_are_nodes = of_each (λ (e : Edge). Contains graph.nodes e.from) graph.edges
      ((0, lit< tt, refl), ((0, lit< tt, refl), ((0, lit< tt, refl), ((0, lit< tt, refl), ((1, lit< tt, refl), ((1, lit< tt, refl), ((1, lit< tt, refl), tt)))))));
  ends_are_data = of_each (λ (e : Edge). IsEnd graph e.to) graph.edges (tt, (tt, (tt, (tt, (tt, (tt, (tt, tt)))))));
  members_are_nodes = of_each (λ (m : Member). Contains graph.nodes m.node) graph.members ((0, lit< tt, refl), ((1, lit< tt, refl), tt));
}

abbrev node_x : Variable
node_x = record { name = x; arc = false }

abbrev arc_l : Variable
arc_l = record { name = l; arc = true }

abbrev node_v : Variable
node_v = record { name = v; arc = false }

abbrev Differ : Variable → Variable → Type 0
Differ a b = a.name ≢ b.name

distinct : AllPairs Differ chain.variables
distinct =
    AllPairs-cons Differ node_x (arc_l ∷ node_v ∷ []) (all (Differ node_x) (arc_l ∷ node_v ∷ []) (names_differ x l refl, (names_differ x v refl, tt)))
    (AllPairs-cons Differ arc_l (node_v ∷ []) (all (Differ arc_l) (node_v ∷ []) (names_differ l v refl, tt))
    (AllPairs-cons Differ node_v [] (All-nil (Differ node_v)) (λ i j d p q. absurd (omega arith))))

only_l : (n : Name) → (l ≢ n) → Contains (flat_map arc_names chain.conditions) n → ⊥
only_l n other m = elim (IsOneOf-from_Contains (l ∷ []) n m) [ inl h ↦ other h | inr none ↦ none ]

never_l : Contains (flat_map node_names chain.conditions) l → ⊥
never_l m =
    elim (IsOneOf-from_Contains (x ∷ x ∷ v ∷ []) l m) [
      | inl h ↦ names_differ x l refl h
      | inr (inl h) ↦ names_differ x l refl h
      | inr (inr (inl h)) ↦ names_differ v l refl h
      | inr (inr (inr none)) ↦ none
    ]

pub the_chain_is_well_made : IsWellMade chain
the_chain_is_well_made = record {
  known_version = inl refl;
  distinct = distinct;
  mentioned = of_each (λ (a : Variable). Contains (flat_map names chain.conditions) a.name) chain.variables ((0, lit< tt, refl), ((2, lit< tt, refl), ((3, lit< tt, refl), tt)));
  declared = of_each (Contains (map (λ (a : Variable). a.name) chain.variables)) (flat_map names chain.conditions)
      ((0, lit< tt, refl), ((0, lit< tt, refl), ((1, lit< tt, refl), ((2, lit< tt, refl), ((1, lit< tt, refl), tt)))));
  arcs = of_each (λ (a : Variable). Contains (flat_map arc_names chain.conditions) a.name → IsTrue a.arc) chain.variables
      ((λ m. absurd (only_l x (names_differ l x refl) m)), ((λ m. refl), ((λ m. absurd (only_l v (names_differ l v refl) m)), tt)));
  nodes = of_each (λ (a : Variable). Contains (flat_map node_names chain.conditions) a.name → a.arc ≡ false) chain.variables
      ((λ m. refl), ((λ m. absurd (never_l m)), ((λ m. refl), tt)));
  flat = all IsFlat chain.conditions (tt, (tt, (tt, tt)));
  small = all (λ k. condition_positions k ≤ 256) chain.conditions (lit≤ tt, (lit≤ tt, (lit≤ tt, tt)));
  few_variables = lit< tt;
  few_conditions = lit< tt;
}
