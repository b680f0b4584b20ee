-- How the count of what was handed out rises.
use Rattle.std.specs.Prelude.{◌≡◌, ℕ, ◌≤◌, ◌+◌, ◌-◌, ◌^◌, min}

-- the count rises by n, and stays at its last value once it is there
abbrev pub IsCounted : ℕ → ℕ → ℕ → Type 0
IsCounted old n new = new ≡ min (old + n) (2 ^ 128 - 1)

-- the count hasn't fallen, and has risen by at most n
pub record RisesAtMost (old n new : ℕ) : Type 0 where
  pub low : old ≤ new
  pub high : new ≤ old + n
