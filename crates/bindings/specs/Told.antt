-- Some of the rows that a search is to find, for the variables that are wanted.
use Rattle.std.specs.Prelude.{◌≡◌, ◌⊎◌, List, Bool, IsTrue, Contains, Some}
use Rattle.std.specs.Cmp.Lexicographic.{pointwise}
use Rattle.std.specs.Global.{Vec}
use Rattle.std.specs.HashSet.{contains}
use Rattle.std.specs.Ordering.{eq_by_cmp}
use Rattle.sd_value.specs.declared.Value.{Value}
use Rattle.sd_value.specs.Order.{value_cmp}
use Rattle.asker.specs.Wanted.{wanted_part}
use Rattle.bindings.specs.declared.some_rows.Told.{Told}

-- the two parts have the same values
abbrev pub same_part : Vec Value → Vec Value → Bool
same_part p q = pointwise (eq_by_cmp value_cmp) p.items q.items

module _ (wanted : List Bool) where
  -- some row has this part
  abbrev pub HasPart : List (List Value) → List Value → Type 0
  HasPart rows part = (r : List Value) × Contains rows r × (wanted_part wanted r ≡ part)

  -- each part that is kept, the first or another, is one of a row that was found
  pub record RowsAreTold (told : Told) : Type 0 where
    pub first : (part : Vec Value) → told.first ≡ Some part → HasPart told.rows.items part.items
    pub others :
        (part : Vec Value) → IsTrue (contains same_part told.others part)
        → HasPart told.rows.items part.items

  -- ys has what xs has, besides that only things with P, and the part of each of these
  pub record AddsSome (P : List Value → Type 0) (xs ys : List (List Value)) : Type 0 where
    pub kept : (t : List Value) → Contains xs t → Contains ys t
    pub nothing_else : (t : List Value) → Contains ys t → Contains xs t ⊎ P t
    pub each : (t : List Value) → P t → HasPart ys (wanted_part wanted t)
