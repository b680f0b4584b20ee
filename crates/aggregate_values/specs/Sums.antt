-- The sum of numbers of pairs.
use Rattle.std.specs.Prelude.{◌≢◌, ℤ, List, []}
use Rattle.std.specs.List.{flat_map}
use Rattle.sd_value.specs.declared.Value.{Value}
use Rattle.site_spec.specs.Site.{pair_number, total, IsWord}

-- the sum
abbrev pub sum_of : List Value → ℤ
sum_of parts = total (flat_map pair_number parts)

-- there is a number, and the sum has 64 bits
abbrev pub HasSum : List Value → Type 0
HasSum parts = (flat_map pair_number parts ≢ []) × IsWord (sum_of parts)
