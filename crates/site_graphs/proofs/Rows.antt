-- All rows of a chain.
use Rattle.std.proofs.Common.{◌≡◌, ◌⊎◌, List, [], ◌∷◌, ◌++◌, map, inl, inr, refl, sym, ap, subst, ◌∙◌}
use Rattle.std.specs.Prelude.{Contains, All, Bool, true, false}
use Rattle.std.specs.Bool.{MatchBool}
use Rattle.std.specs.List.{AllZip}
use Rattle.sd_value.specs.Names.{Name}
use Rattle.sd_value.specs.Order.{bytes_cmp, value_cmp}
use Rattle.sd_value.specs.OrderLaws.{bytes_cmp-total, bytes_cmp-exact, value_cmp-total, value_cmp-exact}
use Rattle.sd_value.specs.Members.{Contains-mapped}
use Rattle.sd_value.specs.declared.Datum.TheVariants.{Int, Text, Url, File, Node}
use Rattle.sd_value.specs.declared.Value.{Value}
use Rattle.sd_value.specs.declared.Value.TheVariants.{Data, Page}
use Rattle.graph_spec.specs.DataGraph.{DataGraph, node, text, IsValueOf, IsLabelValueOf}
use Rattle.graph_spec.specs.declared.Edge.{Edge}
use Rattle.query_spec.specs.declared.Variable.{Variable}
use Rattle.query_spec.specs.Query.{Chain}
use Rattle.query_spec.specs.Holds.{Holds}
use Rattle.query_spec.specs.Rows.{value_in, IsInDomain, IsRow}
use Rattle.site_graphs.proofs.Decide.{Dec, no, dec_as, dec_some, dec_same, dec_in, dec_all}
use Rattle.site_graphs.proofs.Conditions.{dec_holds}
use Rattle.site_graphs.proofs.Lists.{AllOf, all_one, all_as, all_in, all_either, all_from, all_kept}

module _ (G : DataGraph) where
  same_value : (a b : Value) → Dec (a ≡ b)
  same_value = dec_same value_cmp value_cmp-total value_cmp-exact

  end_is : (a : Value) → Dec ((e : Edge) × Contains G.edges e × (e.to ≡ a))
  end_is a = dec_some (λ (e : Edge). e.to ≡ a) (λ e. same_value e.to a) G.edges

  is_value : (a : Value) → Dec (IsValueOf G a)
  is_value (Data (Node n)) = dec_in bytes_cmp bytes_cmp-total bytes_cmp-exact G.nodes n
  is_value (Data (Int i)) = end_is (Data (Int i))
  is_value (Data (Text s)) = end_is (Data (Text s))
  is_value (Data (Url s)) = end_is (Data (Url s))
  is_value (Data (File s)) = end_is (Data (File s))
  is_value (Page p) = no (λ h. h)

  is_label : (a : Value) → Dec (IsLabelValueOf G a)
  is_label a =
      dec_as
      (λ h. (h.0.label, (h.0, h.1, refl), h.2))
      (λ h. (h.1.0, h.1.1, h.2 ∙ ap (λ (l : Name). text l) (sym h.1.2)))
      (dec_some (λ (e : Edge). a ≡ text e.label) (λ e. same_value a (text e.label)) G.edges)

  -- what any variable may be, and maybe more
  abbrev candidates : List Value
  candidates = map node G.nodes ++ (map (λ (e : Edge). e.to) G.edges ++ map (λ (e : Edge). text e.label) G.edges)

  IsCandidate : Value → Type 0
  IsCandidate a = (Contains (map node G.nodes) a) ⊎ ((Contains (map (λ (e : Edge). e.to) G.edges) a)
      ⊎ (Contains (map (λ (e : Edge). text e.label) G.edges) a))

  all_candidates : AllOf IsCandidate
  unfolding IsCandidate
  all_candidates =
      all_either (Contains (map node G.nodes)) (λ a. (Contains (map (λ (e : Edge). e.to) G.edges) a)
      ⊎ (Contains (map (λ (e : Edge). text e.label) G.edges) a))
      (all_in (map node G.nodes))
      (all_either (Contains (map (λ (e : Edge). e.to) G.edges)) (Contains (map (λ (e : Edge). text e.label) G.edges))
      (all_in (map (λ (e : Edge). e.to) G.edges)) (all_in (map (λ (e : Edge). text e.label) G.edges)))

  end_candidate : (a : Value) → (e : Edge) × Contains G.edges e × (e.to ≡ a) → IsCandidate a
  unfolding IsCandidate
  end_candidate a h =
      inr (inl (subst (Contains (map (λ (e : Edge). e.to) G.edges)) h.2
      (Contains-mapped (λ (e : Edge). e.to) G.edges h.0 h.1)))

  value_candidate : (a : Value) → IsValueOf G a → IsCandidate a
  unfolding IsCandidate
  value_candidate (Data (Node n)) h = inl (Contains-mapped node G.nodes n h)
  value_candidate (Data (Int i)) h = end_candidate (Data (Int i)) h
  value_candidate (Data (Text s)) h = end_candidate (Data (Text s)) h
  value_candidate (Data (Url s)) h = end_candidate (Data (Url s)) h
  value_candidate (Data (File s)) h = end_candidate (Data (File s)) h
  value_candidate (Page p) h = absurd h

  label_candidate : (a : Value) → IsLabelValueOf G a → IsCandidate a
  unfolding IsCandidate
  label_candidate a h =
      inr (inr (subst (Contains (map (λ (e : Edge). text e.label) G.edges)) (ap (λ (l : Name). text l) h.1.2 ∙ sym h.2)
      (Contains-mapped (λ (e : Edge). text e.label) G.edges h.1.0 h.1.1)))

  all_labels : AllOf (IsLabelValueOf G)
  all_labels =
      all_as (λ a. IsCandidate a × IsLabelValueOf G a) (IsLabelValueOf G) (λ a h. h.1) (λ a h. (label_candidate a h, h))
      (all_kept IsCandidate (IsLabelValueOf G) is_label all_candidates)

  all_values : AllOf (IsValueOf G)
  all_values =
      all_as (λ a. IsCandidate a × IsValueOf G a) (IsValueOf G) (λ a h. h.1) (λ a h. (value_candidate a h, h))
      (all_kept IsCandidate (IsValueOf G) is_value all_candidates)

  all_in_domain : (v : Variable) → AllOf (IsInDomain G v)
  all_in_domain v = by v.arc
    where
      by : (arc : Bool) → AllOf (λ a. MatchBool arc (IsLabelValueOf G a) (IsValueOf G a))
      by true = all_labels
      by false = all_values

  -- a value of each variable's domain
  all_zipped : (variables : List Variable) → AllOf (AllZip (IsInDomain G) variables)
  all_zipped [] = all_one [] (AllZip (IsInDomain G) []) tt only
    where
      only : (row : List Value) → AllZip (IsInDomain G) [] row → [] ≡ row
      only [] h = refl
      only (a ∷ row) h = absurd h
  all_zipped (v ∷ variables) =
      all_as (λ row. (a : Value) × IsInDomain G v a × ((rest : List Value) × AllZip (IsInDomain G) variables rest
      × (a ∷ rest ≡ row)))
      (AllZip (IsInDomain G) (v ∷ variables)) to from
      (all_from (IsInDomain G v) (λ a row. (rest : List Value) × AllZip (IsInDomain G) variables rest
      × (a ∷ rest ≡ row)) (all_in_domain v)
      (λ a. all_from (AllZip (IsInDomain G) variables) (λ rest row. a ∷ rest ≡ row) (all_zipped variables)
      (λ rest. all_one (a ∷ rest) (λ row. a ∷ rest ≡ row) refl (λ row e. e))))
    where
      to : (row : List Value) → (a : Value) × IsInDomain G v a
          × ((rest : List Value) × AllZip (IsInDomain G) variables rest × (a ∷ rest ≡ row))
          → AllZip (IsInDomain G) (v ∷ variables) row
      to row h = subst (AllZip (IsInDomain G) (v ∷ variables)) h.2.2 (h.1, h.2.1)

      from : (row : List Value) → AllZip (IsInDomain G) (v ∷ variables) row
          → (a : Value) × IsInDomain G v a × ((rest : List Value) × AllZip (IsInDomain G) variables rest
          × (a ∷ rest ≡ row))
      from [] h = absurd h
      from (a ∷ rest) h = (a, h.0, (rest, h.1, refl))

  pub all_rows : (c : Chain) → AllOf (IsRow G c)
  all_rows c =
      all_as (λ row. AllZip (IsInDomain G) c.variables row × All (λ k. Holds G c.version k (value_in c.variables row))
      c.conditions) (IsRow G c)
      (λ row h. record { in_domain = h.0; conditions_hold = h.1 }) (λ row h. (h.in_domain, h.conditions_hold))
      (all_kept (AllZip (IsInDomain G) c.variables) (λ row. All (λ k. Holds G c.version k (value_in c.variables row))
      c.conditions)
      (λ row. dec_all (λ k. Holds G c.version k (value_in c.variables row))
      (dec_holds G c.version (value_in c.variables row)) c.conditions)
      (all_zipped c.variables))
