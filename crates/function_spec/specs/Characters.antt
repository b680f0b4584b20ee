-- Texts by their characters (Unicode scalar values).
use Rattle.std.specs.Prelude.{ℕ, ◌-◌, List, length, take, drop, chars, encode_utf8_all}

-- how many characters the text has
abbrev pub count : List ℕ → ℕ
count t = length (chars t)

-- its first n characters, or all where it has fewer
abbrev pub first : List ℕ → ℕ → List ℕ
first t n = encode_utf8_all (take n (chars t))

-- all but the first n
abbrev pub rest : List ℕ → ℕ → List ℕ
rest t n = encode_utf8_all (drop n (chars t))

-- its last n characters, or all where it has fewer
abbrev pub last : List ℕ → ℕ → List ℕ
last t n = rest t (count t - n)
