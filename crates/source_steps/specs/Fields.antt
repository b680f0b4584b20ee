-- The value of a field.
use Rattle.std.specs.Prelude.{◌≡◌, ◌⊎◌, ◌<◌, ◌^◌, ◌&&◌, ℕ, ℤ, Bool, nat_lt, nat_eq, List, if◌then◌else◌}
use Rattle.std.specs.Cmp.Lexicographic.{pointwise}
use Rattle.std.specs.Fmt.{signed_decimal}
use Rattle.std.specs.Int.Signed.{mag}
use Rattle.std.specs.Str.Parse.{signed_digits_value}
use Rattle.sd_value.specs.declared.Value.{Value}
use Rattle.sd_value.specs.declared.Value.TheVariants.{Data}
use Rattle.sd_value.specs.declared.Datum.TheVariants.{Int}
use Rattle.source_steps.specs.Links.{text_value}

-- a field's bytes, as they are after quotes are taken off
abbrev pub Field : Type 0
Field = List ℕ

-- the integers of 64 bits: `mag` of a negative number is one less than its size
abbrev pub IsI64 : ℤ → Type 0
IsI64 z = mag z < 2 ^ 63

-- the number that a sign and digits write
abbrev pub number_of : Field → ℤ
number_of = signed_digits_value 10

-- whether the field is the decimal form of an integer of 64 bits
abbrev pub is_integer : Field → Bool
is_integer f =
    pointwise nat_eq f (signed_decimal (number_of f)) && nat_lt (mag (number_of f)) (2 ^ 63)

-- the value of a field that is not empty
abbrev pub value_of : (links : Bool) → Field → Value
value_of links f = if is_integer f then Data (Int (number_of f)) else text_value links f

-- the field is an integer's decimal form, as `{}` writes it, and the value is that integer
abbrev pub IsIntegerValue : Field → Value → Type 0
IsIntegerValue f v = (z : ℤ) × IsI64 z × (f ≡ signed_decimal z) × (v ≡ Data (Int z))

-- the field is no integer's decimal form, and the value is that of a text
abbrev pub IsTextValue : (links : Bool) → Field → Value → Type 0
IsTextValue links f v =
    ((z : ℤ) → IsI64 z → f ≡ signed_decimal z → ⊥) × (v ≡ text_value links f)

abbrev pub IsFieldValue : (links : Bool) → Field → Value → Type 0
IsFieldValue links f v = IsIntegerValue f v ⊎ IsTextValue links f v
