-- Texts in which each run of some bytes is one mark.
use Rattle.std.specs.Prelude.{ℕ, ◌==◌, ◌||◌, ◌&&◌, not, Bool, List, length, leb}
use Rattle.std.specs.List.{filter, slice_split, join_with_byte}

-- not empty
abbrev pub is_filled : List ℕ → Bool
is_filled word = not (length word == 0)

-- the longest runs of bytes at which `between` is false
abbrev pub words : (ℕ → Bool) → List ℕ → List (List ℕ)
words between t = filter is_filled (slice_split between t)

-- a space, a tab, a line feed or a carriage return
abbrev pub is_blank : ℕ → Bool
is_blank b = (b == 32) || (b == 9) || (b == 10) || (b == 13)

-- neither a letter from a to z nor a digit
abbrev pub is_other : ℕ → Bool
is_other b = not ((leb 97 b && leb b 122) || (leb 48 b && leb b 57))

-- the text with each run of blanks as one space, and none at either end
abbrev pub trim : List ℕ → List ℕ
trim t = join_with_byte 32 (words is_blank t)

-- the text with each run of others than letters and digits as one dash, and none at either end
abbrev pub dashed : List ℕ → List ℕ
dashed t = join_with_byte 45 (words is_other t)
