-- A query over positions picks what the query picks from the edges at them.
use Rattle.std.specs.Prelude.{◌≡◌, ◌<◌, ℕ, Bool, true, false, cond, List, [], ◌∷◌, length, nat_lt, All}
use Rattle.std.specs.declared.cmp.Ordering.{Ordering}
use Rattle.std.specs.declared.cmp.Ordering.TheVariants.{Less}
use Rattle.std.specs.Ordering.{is_eq, ordering_index}
use Rattle.std.specs.List.{filter}
use Rattle.std.proofs.Common.{arith, refl, sym, ap, ◌∙◌, subst, get_or}
use Rattle.std.proofs.lemmas.Bool.Decides.{nat_tests}
use Rattle.std.proofs.lemmas.List.{get_or-map, length-map}
use Rattle.std.proofs.lemmas.List.Elements.{All-head, All-tail, All-cons}
use Rattle.graph_spec.specs.declared.Edge.{Edge}
use Rattle.list_lookup.specs.Picked.{in_place, IsPlaced}
use Rattle.index_store.specs.Indexed.{edge_at, edges_at, place_at, IsOrder}

is_below : (i n : ℕ) → i < n → nat_lt i n ≡ true
is_below i n l = grind (arith, nat_tests)

module _ (place : Edge → Ordering) (es : List Edge) where
  pub within : (i : ℕ) → i < length es → place_at place es i ≡ place (edge_at es i)
  within i l = ap (λ b. cond b (place (edge_at es i)) Less) (is_below i (length es) l)

  pub placed_at : (ps : List ℕ) → All (λ i. i < length es) ps → IsPlaced place (edges_at es ps) → IsPlaced (place_at place es) ps
  placed_at ps fits placed i j d up l =
      let here : (k : ℕ) → k < length ps → ordering_index (place_at place es (get_or ps k d)) ≡ ordering_index (place (get_or (edges_at es ps) k (edge_at es d))) =
      λ k h. ap ordering_index (within (get_or ps k d) (fits k d h)) ∙ ap (λ e. ordering_index (place e)) (sym (get_or-map (edge_at es) ps k d (edge_at es d) h)) in
      rw (here i (omega arith), here j l) (placed i j (edge_at es d) up (omega (arith, length-map ps (edge_at es))))

  pub in_place_at : (ps : List ℕ) → All (λ i. i < length es) ps → edges_at es (in_place (place_at place es) ps) ≡ in_place place (edges_at es ps)
  in_place_at [] fits = refl
  in_place_at (p ∷ ps) fits =
      ap (λ b. edges_at es (cond b (p ∷ in_place (place_at place es) ps) (in_place (place_at place es) ps))) (ap is_eq (within p (All-head (λ i. i < length es) p ps fits)))
      ∙ by (in_place_at ps (All-tail (λ i. i < length es) p ps fits)) (is_eq (place (edge_at es p)))
    where
      by : edges_at es (in_place (place_at place es) ps) ≡ in_place place (edges_at es ps) → (b : Bool)
          → edges_at es (cond b (p ∷ in_place (place_at place es) ps) (in_place (place_at place es) ps)) ≡ cond b (edge_at es p ∷ in_place place (edges_at es ps)) (in_place place (edges_at es ps))
      by rest true = ap (λ ds. edge_at es p ∷ ds) rest
      by rest false = rest

-- what holds of all numbers holds of those that are kept
pub All-filter : (P : ℕ → Type 0) (test : ℕ → Bool) (ps : List ℕ) → All P ps → All P (filter test ps)
All-filter P test [] all = all
All-filter P test (p ∷ ps) all = by (All-filter P test ps (All-tail P p ps all)) (test p)
  where
    by : All P (filter test ps) → (b : Bool) → All P (cond b (p ∷ filter test ps) (filter test ps))
    by rest true = All-cons P p (filter test ps) (All-head P p ps all) rest
    by rest false = rest

-- the same order, of lists that are the same
pub same_order : {R : Edge → Edge → Ordering} {es ds : List Edge} {ps qs : List ℕ} → ds ≡ es → qs ≡ ps → IsOrder R es ps → IsOrder R ds qs
same_order {R} {es} {ds} {ps} {qs} edges positions order =
    subst (λ xs. IsOrder R xs qs) (sym edges) (subst (IsOrder R es) (sym positions) order)
