-- A count that rises by what is handed out, thing by thing.
use Rattle.std.specs.Prelude.{◌≡◌, ◌≤◌, ◌+◌, ◌<◌, ℕ, List, Some, Contains, length, slice_get}
use Rattle.weight_spec.specs.Distinct.{IsDistinct}

-- the count has risen from `old` to `new` by at most the number of some different things that have
-- P
pub record CountsAtMost {X : Type 0} (P : X → Type 0) (old new : ℕ) : Type 0 where
  pub things : List X
  pub distinct : IsDistinct things
  pub each : (x : X) → Contains things x → P x
  pub high : new ≤ old + length things

-- P holds of the thing and the item of this number
abbrev pub IsAt : {A X : Type 0} → List A → (A → X → Type 0) → ℕ × X → Type 0
IsAt {A} items P (i, x) = (a : A) × (slice_get items i ≡ Some a) × P a x

-- the same, and the number is below n
abbrev pub IsBefore : {A X : Type 0} → List A → (A → X → Type 0) → ℕ → ℕ × X → Type 0
IsBefore items P n (i, x) = (i < n) × IsAt items P (i, x)
