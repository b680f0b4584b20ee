-- Some of a chain's rows, for the variables that are wanted.
use Rattle.std.specs.Prelude.{◌≡◌, List, [], ◌∷◌, Bool, true, false, Contains}
use Rattle.std.specs.List.Sorted.{IsStrictlySortedBy}
use Rattle.sd_value.specs.declared.Value.{Value}
use Rattle.query_spec.specs.Rows.{row_cmp}

-- the values of a row whose variable's flag is set
abbrev pub wanted_part : List Bool → List Value → List Value
wanted_part [] row = []
wanted_part (b ∷ wanted) [] = []
wanted_part (true ∷ wanted) (v ∷ row) = v ∷ wanted_part wanted row
wanted_part (false ∷ wanted) (v ∷ row) = wanted_part wanted row

-- strictly ascending rows with P, and for each row with P one that has the same values where they are wanted
pub record ListsSome (wanted : List Bool) (P : List Value → Type 0)
    (rows : List (List Value)) : Type 0 where
  pub ascending : IsStrictlySortedBy row_cmp rows
  pub sound : (t : List Value) → Contains rows t → P t
  pub each : (t : List Value) → P t
      → (r : List Value) × Contains rows r × (wanted_part wanted r ≡ wanted_part wanted t)
