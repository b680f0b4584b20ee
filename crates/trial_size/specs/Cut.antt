-- Numbers of which only those within the budget of a trial matter.
use Rattle.std.specs.Prelude.{◌≡◌, ◌≤◌, ◌<◌, ℕ}
use Rattle.counterexample_spec.specs.Trial.{trial_budget}

-- the number itself if it is within the budget, and otherwise any past it
abbrev pub IsCut : ℕ → ℕ → Type 0
IsCut n cut = (n ≤ trial_budget → cut ≡ n) × (trial_budget < n → trial_budget < cut)
