-- Tests of twins: a number, and the text that is printed of it.
use Rattle.std.specs.Prelude.{ℤ, pos, negsuc, ◌^◌, ◌-◌, Bool, false, ◌&&◌, nat_lt}
use Rattle.std.specs.Prelude.{◌≤ℤ◌}
use Rattle.std.specs.Fmt.{signed_decimal}
use Rattle.std.specs.Str.Parse.{signed_digits_value}
use Rattle.sd_value.specs.declared.Datum.TheVariants.{Int, Text}
use Rattle.sd_value.specs.declared.Value.{Value}
use Rattle.sd_value.specs.declared.Value.TheVariants.{Data}
use Rattle.sd_value.specs.Names.{Name}
use Rattle.query_spec.specs.Mentions.{same_name}

-- the number is one of 64 bits
abbrev pub IsShort : ℤ → Type 0
IsShort n = (negsuc (2 ^ 63 - 1) ≤ℤ n) × (n ≤ℤ pos (2 ^ 63 - 1))

-- the same as a test
abbrev pub is_short : ℤ → Bool
is_short (pos k) = nat_lt k (2 ^ 63)
is_short (negsuc k) = nat_lt k (2 ^ 63)

-- the number is one of 64 bits, and the text what is printed of it
abbrev pub spells : ℤ → Name → Bool
spells n s = is_short n && same_name s (signed_decimal n)

-- the value is a number of 64 bits, or what is printed of one
abbrev pub has_twin : Value → Bool
has_twin (Data (Int n)) = is_short n
has_twin (Data (Text s)) = spells (signed_digits_value 10 s) s
has_twin v = false
