-- The first candidate whose site breaks a constraint.
use Rattle.std.specs.Prelude.{◌≡◌, List, ◌∷◌, ◌++◌, All, Option, Some, None}
use Rattle.graph_spec.specs.DataGraph.{DataGraph}
use Rattle.site_spec.specs.Site.{Scope}
use Rattle.constraint_spec.specs.declared.Constraint.{Constraint}
use Rattle.constraint_spec.specs.Meets.{Meets}
use Rattle.counterexample_spec.specs.Candidates.{AreCandidates}

-- the first of the graphs that fit of which P isn't so, and none if P is so of all that fit
abbrev pub IsFirstWithout
    : (Fits P : DataGraph → Type 0) → List DataGraph → Option DataGraph → Type 0
IsFirstWithout Fits P graphs None = All (λ G. Fits G → P G) graphs
IsFirstWithout Fits P graphs (Some G) =
    (before after : List DataGraph) × (graphs ≡ before ++ G ∷ after)
    × All (λ H. Fits H → P H) before
    × Fits G
    × (P G → ⊥)

-- The first of the candidates that fit whose site doesn't meet the constraint, and none if each one's
-- does. Candidates that don't fit are passed over.
abbrev pub IsFirstBroken
    : (Fits : DataGraph → Type 0) → Scope → Constraint → Option DataGraph → Type 0
IsFirstBroken Fits q c found =
    (graphs : List DataGraph) × AreCandidates q c graphs
    × IsFirstWithout Fits (λ G. Meets G q c) graphs found
