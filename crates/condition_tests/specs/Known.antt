-- What is known of a row: a value, or nothing yet, for each variable.
use Rattle.std.specs.Prelude.{◌≡◌, ℕ, List, [], ◌∷◌, length, Option, None, Some, Bool, true, false, slice_get, slice_index_or}
use Rattle.sd_value.specs.declared.Value.{Value}
use Rattle.graph_spec.specs.DataGraph.{DataGraph, IsValueOf, IsLabelValueOf}

-- the values that are known, in the variables' order
abbrev pub known_part : List (Option Value) → List Value
known_part [] = []
known_part (None ∷ s) = known_part s
known_part (Some v ∷ s) = v ∷ known_part s

-- the row has each value that is known
pub record Agrees (t : List Value) (s : List (Option Value)) : Type 0 where
  pub as_long : length t ≡ length s
  pub same : (k : ℕ) (v : Value) → slice_get s k ≡ Some (Some v) → slice_get t k ≡ Some v

-- what a variable may be: an arc variable a label, another one a value of the graph
abbrev pub IsCandidate : DataGraph → Bool → Value → Type 0
IsCandidate G true v = IsLabelValueOf G v
IsCandidate G false v = IsValueOf G v

-- the variable of that number is an arc variable
abbrev pub is_arc : List Bool → ℕ → Bool
is_arc arcs k = slice_index_or arcs k false

-- each value of a row may be its variable's
pub record InDomains (G : DataGraph) (arcs : List Bool) (t : List Value) : Type 0 where
  pub each : (k : ℕ) (v : Value) → slice_get t k ≡ Some v → IsCandidate G (is_arc arcs k) v

-- each value that is known may be its variable's
pub record KnownInDomains (G : DataGraph) (arcs : List Bool)
    (s : List (Option Value)) : Type 0 where
  pub each : (k : ℕ) (v : Value) → slice_get s k ≡ Some (Some v) → IsCandidate G (is_arc arcs k) v
