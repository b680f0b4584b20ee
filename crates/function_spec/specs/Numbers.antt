-- Numbers that texts spell, and quotients.
use Rattle.std.specs.Prelude.{◌≡◌, ℕ, ◌<◌, ◌||◌, ◌&&◌, ◌==◌, leb, ℤ, neg_ℤ, Bool, true, false, List, [], ◌∷◌, ◌++◌, length, take, drop, if◌then◌else◌}
use Rattle.std.specs.Int.{int_div_euclid, int_rem_euclid, is_negative}
use Rattle.std.specs.List.{list_any, list_all}
use Rattle.std.specs.Str.Parse.{IsNumeral, signed_digits_value, starts_with_minus, without_leading_sign}
use lib.ListN.{replicate}

-- t is an optional sign and at least one digit, which spell z
abbrev pub Spells : List ℕ → ℤ → Type 0
Spells t z = IsNumeral 10 (without_leading_sign t) × (z ≡ signed_digits_value 10 t)

-- a digit or a sign
abbrev pub is_numeric : ℕ → Bool
is_numeric b = (leb 48 b && leb b 57) || (b == 43) || (b == 45)

-- a text that may stand between the digits of a decimal
abbrev pub IsMark : List ℕ → Type 0
IsMark s = (0 < length s) × (list_any is_numeric s ≡ false)

-- the digits before and after the mark s in a text without its sign; none after it if there is
-- no mark
abbrev pub HasDigits : List ℕ → List ℕ → List ℕ → List ℕ → Type 0
HasDigits s t whole [] = (t ≡ whole) × IsNumeral 10 whole
HasDigits s t whole (d ∷ ds) =
    (t ≡ whole ++ (s ++ d ∷ ds)) × IsNumeral 10 whole × IsNumeral 10 (d ∷ ds)

-- the first n digits after the mark, filled up with zeros
abbrev pub places : ℕ → List ℕ → List ℕ
places n part = take n (part ++ replicate n 48)

-- the digits with the sign of t
abbrev pub signed_as : List ℕ → List ℕ → List ℕ
signed_as t digits = if starts_with_minus t then 45 ∷ digits else digits

-- t is the decimal z with the mark s moved n places to the right, past which are zeros alone
pub record IsDecimal (t s : List ℕ) (n : ℕ) (z : ℤ) : Type 0 where
  pub whole : List ℕ
  pub part : List ℕ
  pub spelled : HasDigits s (without_leading_sign t) whole part
  pub zeros : list_all (λ d. d == 48) (drop n part) ≡ true
  pub value : Spells (signed_as t (whole ++ places n part)) z

-- the quotient of a by b rounded down, for b other than 0
abbrev pub quotient : ℤ → ℤ → ℤ
quotient a b =
    if is_negative b then int_div_euclid (neg_ℤ a) (neg_ℤ b) else int_div_euclid a b

-- what is left of a, which has the sign of b unless it is 0
abbrev pub remainder : ℤ → ℤ → ℤ
remainder a b =
    if is_negative b then neg_ℤ (int_rem_euclid (neg_ℤ a) (neg_ℤ b)) else int_rem_euclid a b
