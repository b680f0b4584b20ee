-- TeX's letters and accents, in UTF-8. An accent is a combining character, of which the second byte is given.
use Rattle.std.specs.Prelude.{◌||◌, ℕ, List, [], ◌∷◌, codes, nat_eq, if◌then◌else◌, Option, Some, None}
use Rattle.std.specs.Str.{bytes_eq}
use Rattle.tex_text.specs.declared.accents.Accents.{Accents}
use Rattle.tex_text.specs.declared.accents.Accents.TheVariants.{Nothing, One, Two}

-- ß ø å æ œ ł ı ȷ þ ð
abbrev pub small_letter : List ℕ → Option (List ℕ)
small_letter word =
    if bytes_eq word (codes "ss") then Some (195 ∷ 159 ∷ [])
    else if bytes_eq word (codes "o") then Some (195 ∷ 184 ∷ [])
    else if bytes_eq word (codes "aa") then Some (195 ∷ 165 ∷ [])
    else if bytes_eq word (codes "ae") then Some (195 ∷ 166 ∷ [])
    else if bytes_eq word (codes "oe") then Some (197 ∷ 147 ∷ [])
    else if bytes_eq word (codes "l") then Some (197 ∷ 130 ∷ [])
    else if bytes_eq word (codes "i") then Some (196 ∷ 177 ∷ [])
    else if bytes_eq word (codes "j") then Some (200 ∷ 183 ∷ [])
    else if bytes_eq word (codes "th") then Some (195 ∷ 190 ∷ [])
    else if bytes_eq word (codes "dh") then Some (195 ∷ 176 ∷ [])
    else None

-- Ø Å Æ Œ Ł Þ Ð
abbrev pub large_letter : List ℕ → Option (List ℕ)
large_letter word =
    if bytes_eq word (codes "O") then Some (195 ∷ 152 ∷ [])
    else if bytes_eq word (codes "AA") then Some (195 ∷ 133 ∷ [])
    else if bytes_eq word (codes "AE") then Some (195 ∷ 134 ∷ [])
    else if bytes_eq word (codes "OE") then Some (197 ∷ 146 ∷ [])
    else if bytes_eq word (codes "L") then Some (197 ∷ 129 ∷ [])
    else if bytes_eq word (codes "TH") then Some (195 ∷ 158 ∷ [])
    else if bytes_eq word (codes "DH") then Some (195 ∷ 144 ∷ [])
    else None

abbrev pub or_else : Option (List ℕ) → Option (List ℕ) → Option (List ℕ)
or_else (Some letter) other = Some letter
or_else None other = other

-- the letter that a command is
abbrev pub word_letter : List ℕ → Option (List ℕ)
word_letter word = or_else (small_letter word) (large_letter word)

-- the accent of a sign behind a backslash: ` ' ^ ~ = . and "
abbrev pub sign_accent : ℕ → Option ℕ
sign_accent b =
    if nat_eq b 96 then Some 128
    else if nat_eq b 39 then Some 129
    else if nat_eq b 94 then Some 130
    else if nat_eq b 126 then Some 131
    else if nat_eq b 61 then Some 132
    else if nat_eq b 46 then Some 135
    else if nat_eq b 34 then Some 136
    else None

-- the accent of a letter behind a backslash: u r H v d c k b
abbrev pub letter_accent : ℕ → Option ℕ
letter_accent b =
    if nat_eq b 117 then Some 134
    else if nat_eq b 114 then Some 138
    else if nat_eq b 72 then Some 139
    else if nat_eq b 118 then Some 140
    else if nat_eq b 100 then Some 163
    else if nat_eq b 99 then Some 167
    else if nat_eq b 107 then Some 168
    else if nat_eq b 98 then Some 177
    else None

-- the accent that a command is
abbrev pub word_accent : List ℕ → Option ℕ
word_accent [] = None
word_accent (b ∷ []) = letter_accent b
word_accent (b ∷ c ∷ word) = None

abbrev pub accent_text : ℕ → List ℕ
accent_text a = 204 ∷ a ∷ []

-- accents over a letter, the nearest first
abbrev pub accents_text : Accents → List ℕ
accents_text Nothing = []
accents_text (One a) = 204 ∷ a ∷ []
accents_text (Two a b) = 204 ∷ a ∷ 204 ∷ b ∷ []

-- with one accent more, which is nearer; a third is let go
abbrev pub added : ℕ → Accents → Accents
added a Nothing = One a
added a (One b) = Two a b
added a (Two b c) = Two a b

-- `ı` and `ȷ` have their dots under an accent's place
abbrev pub letter_under : Accents → List ℕ → List ℕ → List ℕ
letter_under Nothing word letter = letter
letter_under accents word letter =
    if bytes_eq word (codes "i") || bytes_eq word (codes "j") then word else letter
