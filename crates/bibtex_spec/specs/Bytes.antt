-- Classes of bytes, and the longest runs of them.
use Rattle.std.specs.Prelude.{◌+◌, ◌||◌, ◌&&◌, not, ℕ, Bool, List, [], ◌∷◌, nat_eq, nat_le, if◌then◌else◌}

-- space, tab, carriage return, line feed
abbrev pub is_blank : ℕ → Bool
is_blank b = nat_eq b 32 || nat_eq b 9 || nat_eq b 13 || nat_eq b 10

abbrev pub is_capital : ℕ → Bool
is_capital b = nat_le 65 b && nat_le b 90

abbrev pub is_letter : ℕ → Bool
is_letter b = is_capital b || (nat_le 97 b && nat_le b 122)

abbrev pub is_digit : ℕ → Bool
is_digit b = nat_le 48 b && nat_le b 57

-- what a name begins with: a letter, and where names are wide also `_` or a byte beyond ASCII
abbrev pub begins_name : (wide : Bool) → ℕ → Bool
begins_name wide b = is_letter b || ((nat_eq b 95 || nat_le 128 b) && wide)

-- letters, digits and `_ - : . + /`, and where names are wide also bytes beyond ASCII
abbrev pub is_name_byte : (wide : Bool) → ℕ → Bool
is_name_byte wide b =
    is_letter b || is_digit b || nat_eq b 95 || nat_eq b 45 || nat_eq b 58 || nat_eq b 46
    || nat_eq b 43 || nat_eq b 47 || (nat_le 128 b && wide)

-- any but blanks, `,`, `}` and `)`
abbrev pub is_key_byte : ℕ → Bool
is_key_byte b = not (is_blank b || nat_eq b 44 || nat_eq b 125 || nat_eq b 41)

-- any but `@`
abbrev pub is_junk : ℕ → Bool
is_junk b = not (nat_eq b 64)

-- a letter in lower case
abbrev pub lower : ℕ → ℕ
lower b = if is_capital b then b + 32 else b

-- the longest run of such bytes at the front
abbrev pub run : (ℕ → Bool) → List ℕ → List ℕ
run belongs [] = []
run belongs (b ∷ bytes) = if belongs b then b ∷ run belongs bytes else []

-- what is behind it
abbrev pub behind : (ℕ → Bool) → List ℕ → List ℕ
behind belongs [] = []
behind belongs (b ∷ bytes) = if belongs b then behind belongs bytes else b ∷ bytes
