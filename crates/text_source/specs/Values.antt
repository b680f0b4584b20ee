-- The values that a field of front matter has.
use Rattle.std.specs.Prelude.{◌==◌, ◌&&◌, ◌||◌, ℕ, Bool, true, false, not, nat_eq, List, [], ◌∷◌, length, map}
use Rattle.std.specs.Prelude.{Option, Some, None, option_map, if◌then◌else◌}
use Rattle.std.specs.List.{flat_map}
use Rattle.sd_value.specs.declared.Datum.{Datum}
use Rattle.sd_value.specs.declared.Datum.TheVariants.{Int, Text}
use Rattle.source_steps.specs.Fields.{is_integer, number_of}

-- space, tab and carriage return: what may stand round a value within a line
abbrev pub is_blank : ℕ → Bool
is_blank b = nat_eq b 32 || nat_eq b 9 || nat_eq b 13

-- without the blanks at the front
abbrev pub after_blanks : List ℕ → List ℕ
after_blanks [] = []
after_blanks (b ∷ bytes) = if is_blank b then after_blanks bytes else b ∷ bytes

-- the byte and those after it, none where all are blanks
abbrev pub kept : ℕ → List ℕ → List ℕ
kept b [] = if is_blank b then [] else b ∷ []
kept b (c ∷ bytes) = b ∷ c ∷ bytes

-- without the blanks at the end
abbrev pub before_blanks : List ℕ → List ℕ
before_blanks [] = []
before_blanks (b ∷ bytes) = kept b (before_blanks bytes)

-- without the blanks at both ends
abbrev pub trimmed : List ℕ → List ℕ
trimmed bytes = before_blanks (after_blanks bytes)

-- what stands before the last byte, where that is this one
abbrev pub before_last : ℕ → List ℕ → Option (List ℕ)
before_last last [] = None
before_last last (b ∷ []) = if nat_eq b last then Some [] else None
before_last last (b ∷ c ∷ bytes) = option_map (λ rest. b ∷ rest) (before_last last (c ∷ bytes))

-- what stands between these two bytes, where they are the first and the last
abbrev pub enclosed : (first last : ℕ) → List ℕ → Option (List ℕ)
enclosed first last [] = None
enclosed first last (b ∷ bytes) = if nat_eq b first then before_last last bytes else None

-- the Text between quotes, the Int that is spelled, or else the Text
abbrev pub quoted_or : Option (List ℕ) → List ℕ → Datum
quoted_or (Some text) bytes = Text text
quoted_or None bytes = if is_integer bytes then Int (number_of bytes) else Text bytes

-- of a value without blanks at its ends: none where it is empty
abbrev pub trimmed_values : List ℕ → List Datum
trimmed_values [] = []
trimmed_values (b ∷ bytes) = quoted_or (enclosed 34 34 (b ∷ bytes)) (b ∷ bytes) ∷ []

abbrev pub one_value : List ℕ → List Datum
one_value bytes = trimmed_values (trimmed bytes)

-- ---- lists

-- whether a quote is quoting after a byte
abbrev pub quoting_after : Bool → ℕ → Bool
quoting_after quoting b = if nat_eq b 34 then not quoting else quoting

-- a byte more at the front of the first part
abbrev pub grown : ℕ → List (List ℕ) → List (List ℕ)
grown b [] = (b ∷ []) ∷ []
grown b (part ∷ parts) = (b ∷ part) ∷ parts

-- the parts between commas that stand outside of quotes
abbrev pub parts_from : (quoting : Bool) → List ℕ → List (List ℕ)
parts_from quoting [] = [] ∷ []
parts_from quoting (b ∷ bytes) =
    if nat_eq b 44 && not quoting then [] ∷ parts_from quoting bytes
    else grown b (parts_from (quoting_after quoting b) bytes)

-- those of a list, or the one value
abbrev pub listed_or : Option (List ℕ) → List ℕ → List Datum
listed_or (Some list) bytes = flat_map one_value (parts_from false list)
listed_or None bytes = trimmed_values bytes

-- the values of a field's text without blanks at its ends: of a list between `[` and `]` those of its parts
abbrev pub values_of : List ℕ → List Datum
values_of bytes = listed_or (enclosed 91 93 bytes) bytes
