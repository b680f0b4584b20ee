-- The text that TeX shows, in Unicode.
use Rattle.std.specs.Prelude.{◌≡◌, ℕ, zero, suc, List, [], ◌∷◌, ◌++◌, length, chars, encode_utf8_all, if◌then◌else◌}
use Rattle.std.specs.Str.{is_utf8}
use Rattle.unicode_normalization.specs.Forms.{nfc}
use Rattle.tex_text.specs.declared.accents.Accents.{Accents}
use Rattle.tex_text.specs.declared.accents.Accents.TheVariants.{Nothing}
use Rattle.tex_text.specs.Elements.{Element, element}

-- at most so many elements, with these accents before the first
abbrev pub shown_within : ℕ → Accents → List ℕ → List ℕ
shown_within zero accents bytes = []
shown_within (suc turns) accents [] = []
shown_within (suc turns) accents (b ∷ bytes) =
    (element accents b bytes).out
    ++ shown_within turns (element accents b bytes).accents (element accents b bytes).rest

-- what the elements show, one after the other: there are at most as many as bytes
abbrev pub shown : List ℕ → List ℕ
shown bytes = shown_within (length bytes) Nothing bytes

-- with letters and their accents as one character if there is one (NFC); bytes that are no UTF-8 as they are
abbrev pub composed : List ℕ → List ℕ
composed bytes = if is_utf8 bytes then encode_utf8_all (nfc (chars bytes)) else bytes

abbrev pub readable : List ℕ → List ℕ
readable bytes = composed (shown bytes)

-- an element shows this of the text so far, and leaves this
abbrev pub IsShown : Element → List ℕ → List ℕ → Accents → List ℕ → Type 0
IsShown e before now accents rest = (now ≡ before ++ e.out) × (accents ≡ e.accents) × (rest ≡ e.rest)
