-- What is read of a row: its first values.
use Rattle.std.specs.Prelude.{◌≡◌, ℕ, List, take}
use Rattle.sd_value.specs.declared.Value.{Value}

-- rows with the same first values give one result
abbrev pub OnlyReads : {X : Type 0} → ℕ → (List Value → X) → Type 0
OnlyReads width f = (row other : List Value) → take width row ≡ take width other → f row ≡ f other

-- what Q relates to a row, it relates to each row with the same first values
abbrev pub OnlyAsks : {X : Type 0} → ℕ → (List Value → X → Type 0) → Type 0
OnlyAsks {X} width Q =
    (row other : List Value) → take width row ≡ take width other → (x : X) → Q row x → Q other x
