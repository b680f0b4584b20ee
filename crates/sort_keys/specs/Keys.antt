-- Keys: values with where they stand.
use Rattle.std.specs.Prelude.{Bool, true, false, Option, Some, None, if◌then◌else◌}
use Rattle.std.specs.declared.cmp.Ordering.{Ordering}
use Rattle.std.specs.Ordering.{on, then_cmp, is_lt}
use Rattle.sd_value.specs.declared.Value.{Value}
use Rattle.sd_value.specs.Order.{value_cmp}
use Rattle.key_spec.specs.Keys.{folded, folded_text}
use Rattle.sort_keys.specs.declared.key.Key.{Key}

-- where a value stands among others
abbrev pub stands_at : Bool → Value → Value
stands_at false v = v
stands_at true v = folded folded_text v

-- a value as it is compared
abbrev pub key_of : Bool → Value → Key
key_of b v = record { stands = stands_at b v; value = v }

-- by where they stand, ties by value
abbrev pub key_cmp : Key → Key → Ordering
key_cmp = then_cmp (on (λ k. k.stands) value_cmp) (on (λ k. k.value) value_cmp)

-- the lesser, the first of two that tie
abbrev pub lesser : {X : Type 0} → (X → X → Ordering) → Option X → Option X → Option X
lesser R None b = b
lesser R (Some a) None = Some a
lesser R (Some a) (Some b) = Some (if is_lt (R b a) then b else a)
