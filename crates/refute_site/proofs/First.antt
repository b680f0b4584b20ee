-- The empty graph, and the candidates behind it.
use Rattle.std.proofs.Common.{◌≡◌, List, [], ◌∷◌, sym, ap, ◌∙◌, subst}
use Rattle.std.specs.Prelude.{Option, Some, None}
use Rattle.std.proofs.lemmas.List.Elements.{All-nil, All-cons}
use Rattle.graph_spec.specs.DataGraph.{DataGraph}
use Rattle.sd_graph.specs.Statement.{IsEmpty}
use Rattle.site_spec.specs.Site.{Scope}
use Rattle.constraint_spec.specs.declared.Constraint.{Constraint}
use Rattle.constraint_spec.specs.Meets.{Meets}
use Rattle.counterexample_spec.specs.Candidates.{AreCandidates}
use Rattle.counterexample_spec.specs.Frozen.{empty_graph}
use Rattle.counterexample_spec.specs.First.{IsFirstWithout, IsFirstBroken}
use Rattle.refute_site.proofs.Tried.{is_empty_graph}

module _ (Fits : DataGraph → Type 0) (q p t : Scope) (c : Constraint) (rest : List DataGraph) (same : p ≡ q) (tried : t ≡ q) (are : AreCandidates p c (empty_graph ∷ rest)) (E : DataGraph) (empty : IsEmpty E) where
  candidates : AreCandidates q c (empty_graph ∷ rest)
  candidates = subst (λ (s : Scope). AreCandidates s c (empty_graph ∷ rest)) same are

  -- the empty graph is the first
  pub at_once : (G : DataGraph) → (G ≡ E) × Fits E × (Meets E t c → ⊥) → IsFirstBroken Fits q c (Some G)
  at_once G h = (
    empty_graph ∷ rest,
    candidates,
    (
      [],
      rest,
      ap (λ (z : DataGraph). z ∷ rest) (sym (h.0 ∙ is_empty_graph E empty)),
      All-nil (λ (z : DataGraph). Fits z → Meets z q c),
      subst Fits (sym h.0) h.1,
      λ m. h.2 (subst (λ (s : Scope). Meets E s c) (sym tried) (subst (λ (z : DataGraph). Meets z q c) h.0 m)),
    ),
  )

  behind : (P : DataGraph → Type 0) → (Fits empty_graph → P empty_graph) → (found : Option DataGraph) → IsFirstWithout Fits P rest found → IsFirstWithout Fits P (empty_graph ∷ rest) found
  behind P p None all = All-cons (λ (z : DataGraph). Fits z → P z) empty_graph rest p all
  behind P p (Some G) (before, after, e, all, fits, broken) =
      (empty_graph ∷ before, after, ap (λ (l : List DataGraph). empty_graph ∷ l) e, All-cons (λ (z : DataGraph). Fits z → P z) empty_graph before p all, fits, broken)

  -- the empty graph isn't, and what is found of the others
  pub later : (Fits E → Meets E t c) → (found : Option DataGraph) → IsFirstWithout Fits (λ G. Meets G t c) rest found → IsFirstBroken Fits q c found
  later met found h = (
    empty_graph ∷ rest,
    candidates,
    behind (λ G. Meets G q c) (λ fits. subst (λ (s : Scope). Meets empty_graph s c) tried (subst (λ (z : DataGraph). Meets z t c) (is_empty_graph E empty) (met (subst Fits (sym (is_empty_graph E empty)) fits)))) found
        (subst (λ (s : Scope). IsFirstWithout Fits (λ G. Meets G s c) rest found) tried h),
  )
