-- The elements of a text of TeX, and what each shows.
use Rattle.std.specs.Prelude.{◌&&◌, ◌==◌, ℕ, Bool, true, false, List, [], ◌∷◌, ◌++◌, nat_eq, nat_le, if◌then◌else◌, Option, Some, None}
use Rattle.bibtex_spec.specs.Bytes.{is_blank, is_letter, run, behind}
use Rattle.tex_text.specs.declared.accents.Accents.{Accents}
use Rattle.tex_text.specs.declared.accents.Accents.TheVariants.{Nothing, One, Two}
use Rattle.tex_text.specs.Letters.{word_letter, sign_accent, word_accent, accents_text, added, letter_under}

-- What an element shows, the accents that wait for a letter behind it, and the bytes behind it.
pub record Element : Type 0 where
  pub out : List ℕ
  pub accents : Accents
  pub rest : List ℕ

abbrev pub shows : List ℕ → List ℕ → Element
shows out rest = record { out = out; accents = Nothing; rest = rest }

abbrev pub waits : Accents → List ℕ → Element
waits accents rest = record { out = []; accents = accents; rest = rest }

-- the bytes behind this one, if it comes next
abbrev pub after : ℕ → List ℕ → Option (List ℕ)
after mark [] = None
after mark (b ∷ bytes) = if nat_eq b mark then Some bytes else None

-- behind one `-`: a hyphen, or a dash of two or three
abbrev pub third_dash : List ℕ → Option (List ℕ) → Element
third_dash rest None = shows (226 ∷ 128 ∷ 147 ∷ []) rest
third_dash rest (Some later) = shows (226 ∷ 128 ∷ 148 ∷ []) later

abbrev pub second_dash : List ℕ → Option (List ℕ) → Element
second_dash rest None = shows (45 ∷ []) rest
second_dash rest (Some later) = third_dash later (after 45 later)

-- a byte, or this quote if it stands twice
abbrev pub quote : ℕ → List ℕ → List ℕ → Option (List ℕ) → Element
quote b double rest None = shows (b ∷ []) rest
quote b double rest (Some later) = shows double later

-- a byte that is no command and no brace, with no accent before it
abbrev pub plain_element : ℕ → List ℕ → Element
plain_element b rest =
    if nat_eq b 126 then shows (32 ∷ []) rest
    else if nat_eq b 45 then second_dash rest (after 45 rest)
    else if nat_eq b 96 then quote 96 (226 ∷ 128 ∷ 156 ∷ []) rest (after 96 rest)
    else if nat_eq b 39 then quote 39 (226 ∷ 128 ∷ 157 ∷ []) rest (after 39 rest)
    else shows (b ∷ []) rest

-- the bytes of a character of UTF-8 but the first
abbrev pub goes_on : ℕ → Bool
goes_on b = nat_le 128 b && nat_le b 191

-- with accents before it: a character under them, which blanks may stand before
abbrev pub accented_element : Accents → ℕ → List ℕ → Element
accented_element accents b rest =
    if is_blank b then waits accents rest
    else shows ((b ∷ run goes_on rest) ++ accents_text accents) (behind goes_on rest)

-- a command of letters that is no accent: a letter, behind which blanks go; one before a brace, which goes; or its letters
abbrev pub named_element : Accents → List ℕ → List ℕ → Option (List ℕ) → Element
named_element accents word rest (Some letter) =
    shows (letter_under accents word letter ++ accents_text accents) (behind is_blank rest)
named_element accents word [] None = shows (word ++ accents_text accents) []
named_element accents word (b ∷ rest) None =
    if nat_eq b 123 then waits accents (b ∷ rest)
    else shows (word ++ accents_text accents) (b ∷ rest)

abbrev pub word_element : Accents → List ℕ → List ℕ → Option ℕ → Element
word_element accents word rest (Some accent) = waits (added accent accents) rest
word_element accents word rest None = named_element accents word rest (word_letter word)

-- what is behind `{}`, if it comes next
abbrev pub after_nothing : List ℕ → Option (List ℕ)
after_nothing [] = None
after_nothing (b ∷ bytes) = if nat_eq b 123 then after 125 bytes else None

-- an accent over nothing is its sign
abbrev pub sign_over : Accents → ℕ → ℕ → List ℕ → Option (List ℕ) → Element
sign_over accents b accent rest (Some later) = shows (b ∷ accents_text accents) later
sign_over accents b accent rest None = waits (added accent accents) rest

-- a sign behind a backslash: an accent, or itself
abbrev pub sign_element : Accents → ℕ → List ℕ → Option ℕ → Element
sign_element accents b rest (Some accent) =
    sign_over accents b accent rest (after_nothing rest)
sign_element accents b rest None = shows (b ∷ accents_text accents) rest

abbrev pub begins_word : List ℕ → Bool
begins_word [] = false
begins_word (b ∷ bytes) = is_letter b

abbrev pub command_sign : Accents → List ℕ → Element
command_sign accents [] = waits accents []
command_sign accents (b ∷ rest) = sign_element accents b rest (sign_accent b)

-- what is behind a backslash
abbrev pub command : Accents → List ℕ → Element
command accents bytes =
    if begins_word bytes
    then word_element accents (run is_letter bytes) (behind is_letter bytes)
    (word_accent (run is_letter bytes))
    else command_sign accents bytes

abbrev pub other_element : Accents → ℕ → List ℕ → Element
other_element Nothing b rest = plain_element b rest
other_element accents b rest = accented_element accents b rest

-- the element that begins with this byte, with these accents before it
abbrev pub element : Accents → ℕ → List ℕ → Element
element accents b rest =
    if nat_eq b 92 then command accents rest
    else if nat_eq b 123 then waits accents rest
    else if nat_eq b 125 then waits Nothing rest
    else other_element accents b rest
